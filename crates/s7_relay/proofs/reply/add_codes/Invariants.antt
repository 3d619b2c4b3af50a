use Rattle.std.proofs.Common.{◌≡◌, ◌+◌, ◌++◌, length, drop}
use Rattle.s7_relay.specs.Replies.{answered_codes, codes_wanted}
use Rattle.s7_relay.proofs.reply.add_codes.Given as goal

-- the codes so far, and those of the items to come, are those of all
abbrev pub invariant-loop-code : goal.invariant-loop-code
invariant-loop-code l = record {
  told : l.body.octets ++ answered_codes (drop l.code-index l.near) l.codes ≡ l.fn.body.octets ++ answered_codes l.near l.fn.codes;
  codes : length l.codes ≡ codes_wanted (drop l.code-index l.near);
  most : length l.body.octets ≡ length l.fn.body.octets + l.code-index;
  same : l.body.room ≡ l.fn.body.room;
}
