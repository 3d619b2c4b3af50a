-- How partners ended, by what ran.
use Rattle.std.proofs.Common.{◌≡◌, ◌∙◌, inr, ℕ, Bool, List, [], refl, sym, ap, subst, None, Some, Option}
use Rattle.s7_outer.specs.Count.{Rose}
use Rattle.s7_outer.specs.Dial.{GivesTold}
use Rattle.s7_outer.specs.DialShown.{DialShown}
use Rattle.s7_outer.specs.declared.dial.Dialled.TheVariants.{Link}
use Rattle.s7_outer.specs.FilesShown.{FilesShown}
use Rattle.s7_outer.specs.OutShown.{OutShown}
use Rattle.s7_outer.specs.Shown.{Shown}
use Rattle.s7_partner.specs.declared.role.Role.TheVariants.{Active}
use Rattle.s7_script.specs.declared.sends.send_list.SendLine.{SendLine}
use Rattle.s7_partner_run.specs.declared.alone.TalkEnd.{TalkEnd}
use Rattle.s7_partner_run.specs.declared.alone.TalkEnd.TheVariants as end
use Rattle.s7_partner_run.specs.Text.{events_text}
use Rattle.s7_partner_run.specs.Talking.{Post, IsFresh}
use Rattle.s7_partner_run.specs.Alone.{Talked}
use Rattle.s7_partner_run.proofs.AloneSides.{came_to}
use Rattle.s7_args.specs.Tool.{PartnerTold}
use Rattle.s7_program.specs.Output.{Printed}
use Rattle.s7_tool_main.specs.declared.ended.Ended.{Ended}
use Rattle.s7_tool_main.specs.declared.ended.Ended.TheVariants as ended
use Rattle.s7_tool_main.specs.declared.ended.RunEnd.{RunEnd}
use Rattle.s7_tool_main.specs.Loading.{PathFails, ReadsSends, RefusesSends}
use Rattle.s7_tool_main.specs.Partners.{AloneEnds, BothEnd, ComesTo, EndsBy, FailsOne, PairTells, PartnerEnds, PartnersLack}
use Rattle.s7_tool_main.specs.Partners.{RanPair, RanPartners, RefusesOne, TalkedOver, TalksAs, TalksDialled, partner_config}
use Rattle.s7_tool_main.specs.Report.{PrintsText}

-- ---- two partners

module _ (told : PartnerTold) (one other : List SendLine) (path : List ℕ) (files files' : FilesShown)
    (out out' : OutShown) (read : ReadsSends path files (λ lines. lines ≡ other)) where
  ran_pair : (how : Ended) (text text' : List ℕ) (done : Bool) → PairTells one other told.seed told.steps text done
      → text' ≡ text → PrintsText text' done out out' how
      → ReadsSends path files (λ lines. RanPair told one lines out out' how)
  ran_pair how text text' done t same printed = record {
    octets = read.octets;
    lines = read.lines;
    sized = read.sized;
    held = read.held;
    named = read.named;
    so = subst (λ lines. RanPair told one lines out out' how) (sym read.so) (record {
      end = t.end;
      ran = t.ran;
      printed =
          subst (λ b. PrintsText (events_text t.end.events) b out out' how) t.done_is
          (subst (λ x. PrintsText x done out out' how) (same ∙ t.text_is) printed);
    });
  }

  pub both_ended : (how : Ended) (text text' : List ℕ) (done : Bool)
      → PairTells one other told.seed told.steps text done → text' ≡ text → PrintsText text' done out out' how
      → BothEnd told one path files files' out out' how
  both_ended ended.Done text text' done t same p = ran_pair ended.Done text text' done t same p
  both_ended ended.Jobs text text' done t same p = ran_pair ended.Jobs text text' done t same p
  both_ended ended.Output text text' done t same p = ran_pair ended.Output text text' done t same p
  both_ended ended.Memory text text' done t same p = absurd p
  both_ended ended.Refused text text' done t same p = absurd p
  both_ended ended.File text text' done t same p = absurd p
  both_ended ended.Dial text text' done t same p = absurd p

-- ---- one partner

-- the link that was given is the one that the dial tells
pub given_is : {L : Type 0} (shows : L → Shown) (o : Option L) (line : L) → GivesTold o (Link line) → (next : L)
    → o ≡ Some next → shows line ≡ shows next
given_is shows None line h next e = absurd (cc)
given_is shows (Some told) line h next e = ap shows (h ∙ same e)
  where
    same : Some told ≡ Some next → told ≡ next
    same e = cc

talks_as : (start last : Post) (link link' : Shown) (out middle out' : OutShown) (e : TalkEnd) (how : Ended)
    → Talked start link out last link' middle e → (e ≡ end.Output → Rose out.faults middle.faults)
    → EndsBy e middle out' how → TalksAs start link out last link' out' how
talks_as start last link link' out middle out' end.Sent how t rose b =
    subst (TalksAs start link out last link' out') (sym b.0)
    (subst (λ (x : OutShown). Talked start link out last link' x end.Sent) (sym b.1) t)
talks_as start last link link' out middle out' end.Unsent how t rose b =
    subst (TalksAs start link out last link' out') (sym b.0)
    (subst (λ (x : OutShown). Talked start link out last link' x end.Unsent) (sym b.1) t)
talks_as start last link link' out middle out' end.Output how t rose b =
    subst (TalksAs start link out last link' out') (sym b.0)
    (subst (λ (x : OutShown). Talked start link out last link' x end.Output × Rose out.faults x.faults) (sym b.1)
    (t, rose refl))
talks_as start last link link' out middle out' end.Memory how t rose b =
    subst (TalksAs start link out last link' out') (sym b.0) (middle, t, b.1)

comes_to : (sends : List SendLine) (start last : Post) (link link' : Shown) (out out' : OutShown) (how : Ended)
    → IsFresh Active partner_config sends start → TalksAs start link out last link' out' how
    → ComesTo sends link out last link' out' how
comes_to sends start last link link' out out' ended.Done fresh t =
    let c = came_to Active partner_config sends _ start last link link' t.0.news fresh t.0.goes in
    (t.0.news, c.over, t.0.text, c.all t.1)
comes_to sends start last link link' out out' ended.Jobs fresh t =
    let c = came_to Active partner_config sends _ start last link link' t.0.news fresh t.0.goes in
    (t.0.news, c.over, t.0.text, c.closes)
comes_to sends start last link link' out out' ended.Output fresh t = tt
comes_to sends start last link link' out out' ended.Memory fresh t = tt
comes_to sends start last link link' out out' ended.Refused fresh t = tt
comes_to sends start last link link' out out' ended.File fresh t = tt
comes_to sends start last link link' out out' ended.Dial fresh t = tt

module _ {L : Type 0} (shows : L → Shown) where
  pub talked_over : (start last : Post) (link : Shown) (out middle out' : OutShown) (run : RunEnd L) (e : TalkEnd)
      (how : Ended) → Talked start link out last (shows run.line) middle e
      → (e ≡ end.Output → Rose out.faults middle.faults) → EndsBy e middle out' how → run.results.items ≡ []
      → TalkedOver shows start link out out' run how
  talked_over start last link out middle out' run e how t rose b none = record {
    last = last;
    talks = talks_as start last link (shows run.line) out middle out' e how t rose b;
    none = none;
  }

  dialled : (told : PartnerTold) (sends : List SendLine) (dial : DialShown L) (start : Post) (link : Shown)
      (out out' : OutShown) (run : RunEnd L) (how : Ended) → IsFresh Active partner_config sends start
      → ((next : L) → dial.next told.host told.port ≡ Some next → link ≡ shows next)
      → TalkedOver shows start link out out' run how → TalksDialled shows told dial sends out out' run how
  dialled told sends dial start link out out' run how fresh given t = record {
    link = link;
    given = given;
    talks = record {
      start = start;
      last = t.last;
      fresh = fresh;
      talks = t.talks;
      comes = comes_to sends start t.last link (shows run.line) out out' how fresh t.talks;
      none = t.none;
    };
  }

  pub alone_ended : (told : PartnerTold) (sends : List SendLine) (dial dial' : DialShown L) (start : Post)
      (link : Shown) (out out' : OutShown) (run : RunEnd L) (how : Ended) → IsFresh Active partner_config sends start
      → ((next : L) → dial.next told.host told.port ≡ Some next → link ≡ shows next)
      → TalkedOver shows start link out out' run how
      → AloneEnds shows told sends dial dial' out out' (Some run) how
  alone_ended told sends dial dial' start link out out' run ended.Done fresh given t =
      dialled told sends dial start link out out' run ended.Done fresh given t
  alone_ended told sends dial dial' start link out out' run ended.Jobs fresh given t =
      dialled told sends dial start link out out' run ended.Jobs fresh given t
  alone_ended told sends dial dial' start link out out' run ended.Output fresh given t =
      dialled told sends dial start link out out' run ended.Output fresh given t
  alone_ended told sends dial dial' start link out out' run ended.Memory fresh given t =
      dialled told sends dial start link out out' run ended.Memory fresh given t
  alone_ended told sends dial dial' start link out out' run ended.Refused fresh given t = absurd t.talks
  alone_ended told sends dial dial' start link out out' run ended.File fresh given t = absurd t.talks
  alone_ended told sends dial dial' start link out out' run ended.Dial fresh given t = absurd t.talks

  -- ---- by the words

  module _ (told : PartnerTold) (one : List SendLine) (path : List ℕ) (files middle files' : FilesShown)
      (dial dial' : DialShown L) (out out' : OutShown) (read : ReadsSends told.one files (λ lines. lines ≡ one))
      (same : middle ≡ files) where
    with_both : (how : Ended) → ReadsSends path middle (λ other. RanPair told one other out out' how)
        → ReadsSends told.one files (λ lines. ReadsSends path files (λ other. RanPair told lines other out out' how))
    with_both how r = record {
      octets = read.octets;
      lines = read.lines;
      sized = read.sized;
      held = read.held;
      named = read.named;
      so =
          subst (λ lines. ReadsSends path files (λ other. RanPair told lines other out out' how)) (sym read.so)
          (subst (λ (f : FilesShown). ReadsSends path f (λ other. RanPair told one other out out' how)) same r);
    }

    with_first : (P : Type 0) → P → ReadsSends told.one files (λ lines. P)
    with_first P p =
        record { octets = read.octets; lines = read.lines; sized = read.sized; held = read.held; named = read.named; so = p }

    pub both_by : (how : Ended) → told.other ≡ Some path → BothEnd told one path middle files' out out' how
        → PartnerEnds shows told files files' dial dial' out out' None how
    both_by ended.Done is h =
        subst (λ o. RanPartners shows told o files dial out out' None ended.Done) (sym is) (refl, with_both ended.Done h)
    both_by ended.Jobs is h =
        subst (λ o. RanPartners shows told o files dial out out' None ended.Jobs) (sym is) (refl, with_both ended.Jobs h)
    both_by ended.Output is h =
        subst (λ o. RanPartners shows told o files dial out out' None ended.Output) (sym is)
        (refl, with_both ended.Output h)
    both_by ended.Memory is h =
        subst (λ o. PartnersLack shows told o files dial out out' None) (sym is) (refl, h)
    both_by ended.Refused is h = (
      refl,
      subst (λ o. RefusesOne told o files (Printed out out')) (sym is)
          (inr (with_first (RefusesSends path files (Printed out out'))
          (subst (λ (f : FilesShown). RefusesSends path f (Printed out out')) same h))),
    )
    both_by ended.File is h = (
      refl,
      subst (λ o. FailsOne told o files files' (Printed out out')) (sym is)
          (inr (with_first (PathFails path files files' (Printed out out'))
          (subst (λ (f : FilesShown). PathFails path f files' (Printed out out')) same h))),
    )
    both_by ended.Dial is h = absurd h
