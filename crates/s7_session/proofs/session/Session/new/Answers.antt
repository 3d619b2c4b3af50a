use Rattle.std.proofs.Common.{[], refl, sym, ap, ◌∙◌, arith, append-nil}
use Rattle.s7_session.specs.Owed.{Past}
use Rattle.s7_session.specs.LinkState.{first_link}
use Rattle.s7_session.proofs.PastLemmas.{past_nothing}
use Rattle.s7_session.proofs.session.Session.new.Goals as goal

pub returns-clause-fresh : goal.returns-clause-fresh
returns-clause-fresh c =
    let none = past_nothing (first_link c.args.guard) [] in
    record {
      stands = record {
        read = c.in_ok-new.ensures.read;
        used = refl;
        met = ap (λ (p : Past). p.verdicts) none;
        owed = ap (λ (p : Past). p.owed) none ∙ sym c.in_ok-new-2.ensures.sends;
        whole = record {
          front = [];
          behind = [];
          octets = refl;
          met = [];
          later = [];
          verdicts = refl;
          part = [];
          whole = ap (λ (p : Past). p.owed) (sym none) ∙ sym (append-nil _);
          all_but_one = omega arith;
        };
        lives = λ h. ap (λ (p : Past). p.standing) none;
        link = λ h. ap (λ (p : Past). p.link) none ∙ sym c.in_ok-new-2.ensures.link;
        size = λ h. ap (λ (p : Past). p.size) none ∙ sym c.in_ok-new-2.ensures.size;
      };
      going = refl;
      unread = c.new-2.ensures;
      count = refl;
      newest = refl;
    }
