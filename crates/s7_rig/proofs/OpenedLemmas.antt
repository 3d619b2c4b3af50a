-- What the connect request of a client makes of a new link.
use Rattle.std.proofs.Common.{◌≡◌, ℕ, ◌<◌, Ok, List, [], ◌∷◌, ◌++◌, length, refl, ap, sym, ◌∙◌, arith}
use Rattle.std.specs.Prelude.{Option, None, Some}
use Rattle.s7_tpkt.specs.Packets.{packet_of, packets_of, rest_of, state_of}
use Rattle.s7_tpkt.proofs.WriteLemmas.{one_written}
use Rattle.s7_cotp.specs.Spelling.{spelling_of_connect, spelling_of_confirm, IsWritable}
use Rattle.s7_cotp.specs.Told.{connect}
use Rattle.s7_cotp.specs.Reading.{tpdu_of}
use Rattle.s7_cotp.proofs.SpellLemmas.{connect_again}
use Rattle.s7_area.specs.declared.guard.Guard.{Guard}
use Rattle.s7_wire.specs.declared.found.Opening.TheVariants.{Request}
use Rattle.s7_wire.specs.Reading.{Progress, start, nothing_unfinished, opened as opens, after_packet, limits, with_tpdu, with_body, with_bodies, with_rest, reading}
use Rattle.s7_wire.proofs.ReadingLemmas.{reading_is, rest_more, body_at}
use Rattle.s7_dialogue.specs.declared.config.Config.{Config}
use Rattle.s7_dialogue.specs.Course.{request_of, connect_octets}
use Rattle.s7_session.specs.Verdict.{Verdict}
use Rattle.s7_session.specs.Events.{lives, Made, made, confirmed}
use Rattle.s7_session.specs.LinkState.{LinkState, first_link}
use Rattle.s7_session.specs.Owed.{Past, past, with_made}
use Rattle.s7_session.specs.Owed as owed
use Rattle.s7_session.specs.Telegrams.{entered_of}
use Rattle.s7_session.proofs.PastLemmas.{past_nothing, past_event}
use Rattle.s7_rig.proofs.Waiting.{Waits, Opens}
use Rattle.s7_rig.proofs.FrontLemmas.{still_read}
use Rattle.s7_rig.proofs.PacketFronts.{front_more}
use Rattle.s7_rig.proofs.PastFacts.{past_same}

request_is_writable : (config : Config) → IsWritable (request_of config)
request_is_writable config = record { least_size = omega arith; most_size = omega arith; calling = omega arith; called = omega arith }

request_told : (config : Config) → tpdu_of (spelling_of_connect (request_of config)) ≡ Ok (connect (request_of config))
request_told config = connect_again (request_of config) (request_is_writable config)

-- the connect request is one packet
request_packet : (config : Config)
    → (packets_of (limits Request) (connect_octets config) ≡ spelling_of_connect (request_of config) ∷ []) × (rest_of (limits Request) (connect_octets config) ≡ [])
request_packet config = one_written (limits Request) (spelling_of_connect (request_of config)) (omega arith) (omega arith)

-- nothing is read of nothing
nothing_read : reading Request [] ≡ start
unfolding reading packets_of rest_of
nothing_read = refl

-- what is read of the connect request
abbrev request_read : Config → Progress
request_read config = record {
  at = after_packet 0 (spelling_of_connect (request_of config));
  size = Some 1024;
  unfinished = nothing_unfinished;
  events = opens (request_of config) ∷ [];
  ending = None;
}

read_opened : (config : Config) → reading Request (connect_octets config) ≡ request_read config
read_opened config =
    let body = spelling_of_connect (request_of config) in
    let f : List (List ℕ) → List ℕ → Progress = λ ps rest. with_rest (with_bodies Request start ps) (state_of (limits Request ps) rest) in
    reading_is Request (connect_octets config)
    ∙ (ap (λ ps. f ps (rest_of (limits Request) (connect_octets config))) (request_packet config).0
    ∙ (ap (f (body ∷ [])) (request_packet config).1
    ∙ (rest_more (with_body Request start body)
    ∙ (body_at Request start body refl
    ∙ ap (with_tpdu Request start body) (request_told config)))))

-- what the link holds and owes then
abbrev opening_made : LinkState → Config → Made
opening_made first config = record {
  size = Some 1024;
  link = first;
  out = packet_of (spelling_of_confirm (confirmed (request_of config)));
  mets = [];
  verdicts = [];
  standing = lives;
}

made_opened : (first : LinkState) (config : Config) → made None first (opens (request_of config)) [] ≡ opening_made first config
unfolding made
made_opened first config = refl

past_opened : (first : LinkState) (config : Config) → past first (connect_octets config) [] ≡ with_made (owed.start first []) (opening_made first config)
past_opened first config =
    let none = past_nothing first [] in
    let event = opens (request_of config) in
    past_event first [] (connect_octets config) [] [] event (ap (λ (p : Past). p.standing) none) (ap (λ (p : Past). p.verdicts) none)
    (ap (λ (p : Progress). p.events) (read_opened config) ∙ ap (λ (p : Progress). p.events ++ event ∷ []) (sym nothing_read))
    (ap (λ (p : Progress). p.ending) (read_opened config))
    ∙ (ap (λ (p : Past). with_made p (made p.size p.link event [])) none
    ∙ ap (with_made (owed.start first [])) (made_opened first config))

-- the connect request opens the link: the confirm is owed
pub opened : (guard : Option Guard) (config : Config) → Opens guard (connect_octets config) (packet_of (spelling_of_confirm (confirmed (request_of config))))
opened guard config =
    let same = past_opened (first_link guard) config in
    let read = read_opened config in
    record {
      settled = record {
        rest = (request_packet config).1;
        unended = ap (λ (p : Progress). p.ending) read;
        unfinished = ap (λ (p : Progress). p.unfinished) read;
        read_size = ap (λ (p : Progress). p.size) read;
        lives = ap (λ (p : Past). p.standing) same;
        met = ap (λ (p : Past). p.verdicts) same;
        size = ap (λ (p : Past). p.size) same;
        grants = ap (λ (p : Past). p.link.granted) same;
      };
      owed = ap (λ (p : Past). p.owed) same;
      entered = ap (λ (p : Past). entered_of p.mets) same;
    }

clear_at_first : rest_of (limits Request) [] ≡ []
unfolding rest_of
clear_at_first = refl

limit_at_first : limits Request (packets_of (limits Request) []) ≡ 8199
unfolding packets_of
limit_at_first = refl

-- before all octets of the connect request came, nothing is owed
pub opening_front : (first : LinkState) (config : Config) (u v : List ℕ) (vs : List Verdict) → u ++ v ≡ connect_octets config → 0 < length v → Waits first [] u [] vs
opening_front first config u v vs is some =
    let none = ap (λ (p : Progress). p.ending) nothing_read in
    let more = front_more 8199 (spelling_of_connect (request_of config)) u v (omega arith) (omega arith) is some in
    let empty = past_nothing first [] in
    let same = past_same first [] u vs (still_read [] u 8199 clear_at_first none limit_at_first more) none ∙ past_nothing first vs in
    record {
      lives = ap (λ (p : Past). p.standing) same;
      verdicts = ap (λ (p : Past). p.verdicts) same;
      owed = ap (λ (p : Past). p.owed) same ∙ sym (ap (λ (p : Past). p.owed) empty);
      entered = ap (λ (p : Past). entered_of p.mets) same ∙ sym (ap (λ (p : Past). entered_of p.mets) empty);
    }
