-- What is moved on a link.
use Rattle.std.proofs.Common.{◌≡◌, ℕ, ◌-◌, ◌≤◌, List, [], ◌++◌, length, refl, ap, sym, ◌∙◌, append_assoc, append-nil}
use Rattle.std.proofs.Common.{arith, length-append}
use Rattle.std.specs.Prelude.{Option, None, Some, option_map}
use Rattle.std.specs.Io.KnownBytes.{prepend_known, append_known}
use Rattle.s7_outer.specs.Shown.{Shown}
use Rattle.s7_outer.specs.Count.{Rose}
use Rattle.s7_client.specs.Standing.{Moves}

pub prepend_none : (o : Option (List ℕ)) → o ≡ prepend_known [] o
prepend_none None = refl
prepend_none (Some x) = refl

pub append_none : (o : Option (List ℕ)) → o ≡ append_known o []
append_none None = refl
append_none (Some x) = ap Some (sym (append-nil x))

pub space_none : (o : Option ℕ) → o ≡ option_map (λ space. space - length {A = ℕ} []) o
space_none None = refl
space_none (Some n) = ap Some (omega arith)

-- nothing was written
unfoldable pub moves_received : (kept kept' : List ℕ) (link link' : Shown) (received used : List ℕ)
    → kept ++ received ≡ used ++ kept' → link.left ≡ prepend_known received link'.left
    → link' ≡ record link { left = link'.left; has_ended = link'.has_ended; faults = link'.faults; waits = link'.waits }
    → link.faults ≤ link'.faults → link.waits ≤ link'.waits → Moves kept link kept' link'
moves_received kept kept' link link' received used inbox took same faults waits = record {
  received = received;
  used = used;
  written = [];
  took = took;
  wrote = ap (λ (x : Shown). x.written) same ∙ append_none link.written;
  inbox = inbox;
  faults = faults;
  waits = waits;
  moment = ap (λ (x : Shown). x.moment) same;
  clock_faults = ap (λ (x : Shown). x.clock_faults) same;
  looks = ap (λ (x : Shown). x.looks) same;
  lent = ap (λ (x : Shown). x.lent) same;
  shut = ap (λ (x : Shown). x.shut) same;
  space = ap (λ (x : Shown). x.space) same ∙ space_none link.space;
}

-- nothing was received or used
unfoldable pub moves_sent : (kept kept' : List ℕ) (link link' : Shown) (written : List ℕ) → kept ≡ kept'
    → link'.written ≡ append_known link.written written
    → link'.space ≡ option_map (λ space. space - length written) link.space
    → link' ≡ record link { written = link'.written; faults = link'.faults; waits = link'.waits; space = link'.space }
    → link.faults ≤ link'.faults → link.waits ≤ link'.waits → Moves kept link kept' link'
moves_sent kept kept' link link' written inbox wrote space same faults waits = record {
  received = [];
  used = [];
  written = written;
  took = prepend_none link.left ∙ ap (λ (x : Shown). prepend_known [] x.left) (sym same);
  wrote = wrote;
  inbox = append-nil kept ∙ inbox;
  faults = faults;
  waits = waits;
  moment = ap (λ (x : Shown). x.moment) same;
  clock_faults = ap (λ (x : Shown). x.clock_faults) same;
  looks = ap (λ (x : Shown). x.looks) same;
  lent = ap (λ (x : Shown). x.lent) same;
  shut = ap (λ (x : Shown). x.shut) same;
  space = space;
}

-- the link wasn't called
unfoldable pub moves_used : (kept kept' : List ℕ) (link : Shown) (used : List ℕ) → kept ≡ used ++ kept'
    → Moves kept link kept' link
moves_used kept kept' link used inbox = record {
  received = [];
  used = used;
  written = [];
  took = prepend_none link.left;
  wrote = append_none link.written;
  inbox = append-nil kept ∙ inbox;
  faults = omega arith;
  waits = omega arith;
  moment = refl;
  clock_faults = refl;
  looks = refl;
  lent = refl;
  shut = refl;
  space = space_none link.space;
}

pub prepend_both : (xs ys : List ℕ) (o : Option (List ℕ))
    → prepend_known xs (prepend_known ys o) ≡ prepend_known (xs ++ ys) o
prepend_both xs ys None = refl
prepend_both xs ys (Some x) = ap Some (sym (append_assoc xs ys x))

pub append_both : (o : Option (List ℕ)) (xs ys : List ℕ)
    → append_known (append_known o xs) ys ≡ append_known o (xs ++ ys)
append_both None xs ys = refl
append_both (Some x) xs ys = ap Some (append_assoc x xs ys)

pub space_both : (o : Option ℕ) (xs ys : List ℕ)
    → option_map (λ space. space - length ys) (option_map (λ space. space - length xs) o)
    ≡ option_map (λ space. space - length (xs ++ ys)) o
space_both None xs ys = refl
space_both (Some n) xs ys = ap Some (omega (arith, length-append xs ys))

unfoldable pub moves_both : (l l1 l2 : List ℕ) (k k1 k2 : Shown) → Moves l k l1 k1 → Moves l1 k1 l2 k2
    → Moves l k l2 k2
moves_both l l1 l2 k k1 k2 m n = record {
  received = m.received ++ n.received;
  used = m.used ++ n.used;
  written = m.written ++ n.written;
  took = m.took ∙ (ap (prepend_known m.received) n.took ∙ prepend_both m.received n.received k2.left);
  wrote = n.wrote
      ∙ (ap (λ (x : Option (List ℕ)). append_known x n.written) m.wrote ∙ append_both k.written m.written n.written);
  inbox =
      sym (append_assoc l m.received n.received)
      ∙ (ap (λ (x : List ℕ). x ++ n.received) m.inbox
      ∙ (append_assoc m.used l1 n.received
      ∙ (ap (λ (x : List ℕ). m.used ++ x) n.inbox
      ∙ sym (append_assoc m.used n.used l2))));
  faults = omega (arith, m.faults, n.faults);
  waits = omega (arith, m.waits, n.waits);
  moment = n.moment ∙ m.moment;
  clock_faults = n.clock_faults ∙ m.clock_faults;
  looks = n.looks ∙ m.looks;
  lent = n.lent ∙ m.lent;
  shut = n.shut ∙ m.shut;
  space = n.space ∙ (ap (option_map (λ space. space - length n.written)) m.space
      ∙ space_both k.space m.written n.written);
}

pub rose_before : (a b c : ℕ) → a ≤ b → Rose b c → Rose a c
rose_before a b c le rose = omega (arith, le, rose)
