-- What is found in one more octet.
use Rattle.std.proofs.Common.{◌≡◌, ℕ, ◌<◌, ◌≤◌, List, ◌++◌, length, refl, sym, ◌∙◌, subst}
use Rattle.std.specs.Prelude.{Option, None, Some}
use Rattle.std.proofs.Math.Logic.{∥∥₁_elim, ∥∥₁_map}
use Rattle.std.proofs.Props.{props}
use Rattle.s7_cotp.specs.declared.tpdu.Connection.{Connection}
use Rattle.s7_cotp.specs.Told.{CanBeWritten}
use Rattle.s7_wire.specs.Reads.{HasRead, HasFound, HasMessage, opens_by, ended_with, found_by}
use Rattle.s7_wire.specs.declared.found.Ended.{Ended}
use Rattle.s7_wire.specs.declared.found.Ended.TheVariants as end_of
use Rattle.s7_wire.specs.declared.found.Found.{Found}
use Rattle.s7_wire.specs.declared.found.Found.TheVariants as finding
use Rattle.s7_wire.specs.declared.reader.Reader.{Reader}
use Rattle.s7_partner.specs.Octet.{HasReadSome, ReadsOctet}
use Rattle.s7_partner.proofs.OrderLemmas.{sizes}
use Rattle.s7_partner.proofs.CountLemmas.{octet_less}

pub reads_octet : (old new : Reader) (before after used : List ℕ) (found : Found) → length used ≤ 1
    → before ≡ used ++ after → ((b : List ℕ) → HasRead old b → HasFound new b used found)
    → opens_by new ≡ opens_by old → HasReadSome old
    → (ended_with old ≡ None → 0 < length used) → (found ≡ finding.More → 0 < length used)
    → ((c : Connection) → found ≡ finding.Opened c → CanBeWritten c) → (found ≡ finding.Message → HasMessage new)
    → ReadsOctet old new before after found
reads_octet old new before after used found few inbox finds opening some one taken writable whole = record {
  used = used;
  few = few;
  one = one;
  inbox = inbox;
  finds = finds;
  opening = opening;
  some = ∥∥₁_map some (λ k. (k.0 ++ used, (finds k.0 k.1).read));
  size = ∥∥₁_elim some (hlevel props) (λ k. (sizes old new k.0 used found opening k.1 (finds k.0 k.1)).size);
  opened = λ c e.
      ∥∥₁_elim some (hlevel props) (λ k. (sizes old new k.0 used found opening k.1 (finds k.0 k.1)).opened c e);
  sized = λ e.
      ∥∥₁_elim some (hlevel props) (λ k. (sizes old new k.0 used found opening k.1 (finds k.0 k.1)).sized e);
  writable = writable;
  whole = whole;
  less = λ e.
      ∥∥₁_elim some (hlevel props) (λ k.
      octet_less old new k.0 used opening (taken e) k.1 (more_found k.0 (finds k.0 k.1) e));
}
  where
    more_found : (b : List ℕ) → HasFound new b used found → found ≡ finding.More → HasFound new b used finding.More
    more_found b h e = subst (λ (x : Found). HasFound new b used x) e h

-- a reader at which octets were left over hasn't ended
not_ended : (e : Option Ended) (found : Found) → ((end : Ended) → e ≡ Some end → found ≡ found_by end)
    → found ≡ finding.More → e ≡ None
not_ended None found h m = refl
not_ended (Some end_of.Disconnected) found h m =
    absurd (let x : finding.Disconnected ≡ finding.More = sym (h end_of.Disconnected refl) ∙ m in cc)
not_ended (Some (end_of.Faulted fault)) found h m =
    absurd (let x : finding.Fault fault ≡ finding.More = sym (h (end_of.Faulted fault) refl) ∙ m in cc)

pub more_going : (r : Reader) (found : Found) → ((end : Ended) → ended_with r ≡ Some end → found ≡ found_by end)
    → found ≡ finding.More → ended_with r ≡ None
more_going r found h m = not_ended (ended_with r) found h m
