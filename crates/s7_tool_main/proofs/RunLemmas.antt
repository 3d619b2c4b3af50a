-- Laws of runs.
use Rattle.std.proofs.Common.{◌≡◌, ◌∙◌, ◌⊎◌, refl, sym, ap, subst, inl, inr, List, ℕ, Result, Ok, Err, OnOk, OnErr}
use Rattle.std.proofs.Common.{[], ◌∷◌, ◌++◌, map, Option, Some, None, append_assoc, append-nil}
use Rattle.std.specs.Io.KnownBytes.{append_known}
use Rattle.s7_outer.specs.OutShown.{OutShown}
use Rattle.s7_outer.specs.Shown.{Shown}
use Rattle.s7_dialogue.specs.declared.config.Config.{Config}
use Rattle.s7_dialogue.specs.declared.job.Job.{Job}
use Rattle.s7_dialogue.specs.declared.job.Job.TheVariants as job
use Rattle.s7_dialogue.specs.declared.job.JobResult.{JobResult}
use Rattle.s7_client.specs.declared.connection.Connection.{Connection}
use Rattle.s7_client.specs.Polling.{config_of}
use Rattle.s7_client.specs.Runs.{Between, JobRun, between_of, fresh}
use Rattle.s7_script.specs.declared.scripts.script_list.ScriptLine.{ScriptLine}
use Rattle.s7_program.specs.Output.{Gains}
use Rattle.s7_tool_main.specs.declared.ended.Ended.{Ended}
use Rattle.s7_tool_main.specs.Report.{line_text, report}
use Rattle.s7_tool_main.specs.Run.{RunsJobs, Place, DoesJob, DoesLines, DoesFirst, EndsEarly, DoesAll, Goes}
use Rattle.s7_tool_main.specs.Run.{connect_line, first_place, job_in}

-- ---- lists and texts

map_both : (ls ms : List ScriptLine) → map job_in (ls ++ ms) ≡ map job_in ls ++ map job_in ms
map_both [] ms = refl
map_both (l ∷ ls) ms = ap (λ js. l.job ∷ js) (map_both ls ms)

text_both : (t : Option (List ℕ)) (a b : List ℕ) → append_known (append_known t a) b ≡ append_known t (a ++ b)
text_both None a b = refl
text_both (Some t) a b = ap (λ x. Some x) (append_assoc t a b)

text_none : (t : Option (List ℕ)) → t ≡ append_known t []
text_none None = refl
text_none (Some t) = ap (λ x. Some x) (sym (append-nil t))

-- ---- jobs one after another

pub runs_one : (c : Config) (b : Between) (j : Job) (l l' : Shown) (r : JobResult) (a : Between) → JobRun c b j l l' r a
    → RunsJobs c b (j ∷ []) l (r ∷ []) l' a
unfolding RunsJobs
runs_one c b j l l' r a h = (l', a, h, (refl, refl))

pub runs_both : (c : Config) (b m a : Between) (js ks : List Job) (l lm l' : Shown) (rs ts : List JobResult)
    → RunsJobs c b js l rs lm m → RunsJobs c m ks lm ts l' a → RunsJobs c b (js ++ ks) l (rs ++ ts) l' a
unfolding RunsJobs
runs_both c b m a [] ks l lm l' [] ts h k =
    subst (λ x. RunsJobs c x ks l ts l' a) h.1 (subst (λ x. RunsJobs c m ks x ts l' a) h.0 k)
runs_both c b m a [] ks l lm l' (r ∷ rs) ts h k = absurd h
runs_both c b m a (j ∷ js) ks l lm l' [] ts h k = absurd h
runs_both c b m a (j ∷ js) ks l lm l' (r ∷ rs) ts h k =
    (h.0, h.1, h.2, runs_both c h.1 m a js ks h.0 lm l' rs ts h.3 k)

-- ---- reports

report_one : (next : ScriptLine) (r : JobResult) → report (next ∷ []) (r ∷ []) ≡ line_text next r
unfolding report
report_one next r = append-nil (line_text next r)

report_both : (c : Config) (b a : Between) (ls ms : List ScriptLine) (l l' : Shown) (rs ts : List JobResult)
    → RunsJobs c b (map job_in ls) l rs l' a → report (ls ++ ms) (rs ++ ts) ≡ report ls rs ++ report ms ts
unfolding RunsJobs report
report_both c b a [] ms l l' [] ts h = refl
report_both c b a [] ms l l' (r ∷ rs) ts h = absurd h
report_both c b a (x ∷ ls) ms l l' [] ts h = absurd h
report_both c b a (x ∷ ls) ms l l' (r ∷ rs) ts h =
    ap (λ t. line_text x r ++ t) (report_both c h.1 a ls ms h.0 l' rs ts h.3)
    ∙ sym (append_assoc (line_text x r) (report ls rs) (report ms ts))

-- results past the last line are not reported
report_past : (c : Config) (b a : Between) (ls : List ScriptLine) (l l' : Shown) (rs ts : List JobResult)
    → RunsJobs c b (map job_in ls) l rs l' a → report ls rs ≡ report ls (rs ++ ts)
unfolding RunsJobs report
report_past c b a [] l l' [] ts h = refl
report_past c b a [] l l' (r ∷ rs) ts h = absurd h
report_past c b a (x ∷ ls) l l' [] ts h = absurd h
report_past c b a (x ∷ ls) l l' (r ∷ rs) ts h = ap (λ t. line_text x r ++ t) (report_past c h.1 a ls h.0 l' rs ts h.3)

-- ---- lines

pub does_none : (c : Config) (p : Place) → DoesLines c [] p p
unfolding RunsJobs report
does_none c p =
    record { told = []; runs = (refl, refl); results = sym (append-nil p.results); text = text_none p.out.text }

pub does_one : (c : Config) (next : ScriptLine) (p q : Place) (d : DoesJob c next.job p q)
    → Gains p.out q.out (line_text next d.told) → DoesLines c (next ∷ []) p q
does_one c next p q d t = record {
  told = d.told ∷ [];
  runs = runs_one c p.between next.job p.link q.link d.told q.between d.run;
  results = d.results;
  text = t ∙ ap (append_known p.out.text) (sym (report_one next d.told));
}

pub does_both : (c : Config) (ls ms : List ScriptLine) (p q r : Place) → DoesLines c ls p q → DoesLines c ms q r
    → DoesLines c (ls ++ ms) p r
does_both c ls ms p q r h k = record {
  told = h.told ++ k.told;
  runs = subst (λ js. RunsJobs c p.between js p.link (h.told ++ k.told) r.link r.between) (sym (map_both ls ms))
      (runs_both c p.between q.between r.between (map job_in ls) (map job_in ms) p.link q.link r.link h.told k.told
      h.runs k.runs);
  results = k.results ∙ ap (λ x. x ++ k.told) h.results ∙ append_assoc p.results h.told k.told;
  text = k.text ∙ ap (λ t. append_known t (report ms k.told)) h.text
      ∙ text_both p.out.text (report ls h.told) (report ms k.told)
      ∙ ap (append_known p.out.text)
      (sym (report_both c p.between q.between ls ms p.link q.link h.told k.told h.runs));
}

-- ---- runs that ended early

abbrev Prints : Type 1
Prints = OutShown → OutShown → List ℕ → Type 0

-- before a job
pub early_before : (w : Prints) (c : Config) (ls : List ScriptLine) (p q : Place) → q ≡ p → EndsEarly w c ls p q
early_before w c ls p q same =
    record { front = []; rest = ls; broken = p; split = refl; done = does_none c p; stop = inl same }

-- after it
pub early_at : (w : Prints) (c : Config) (next : ScriptLine) (p q : Place) (d : DoesJob c next.job p q)
    → w p.out q.out (line_text next d.told) → EndsEarly w c (next ∷ []) p q
early_at w c next p q d t = record {
  front = [];
  rest = next ∷ [];
  broken = p;
  split = refl;
  done = does_none c p;
  stop = inr (record { does = d; text = t });
}

pub early_after : (w : Prints) (c : Config) (ls ms : List ScriptLine) (p q r : Place) → DoesLines c ls p q
    → EndsEarly w c ms q r
    → EndsEarly w c (ls ++ ms) p r
early_after w c ls ms p q r h k = record {
  front = ls ++ k.front;
  rest = k.rest;
  broken = k.broken;
  split = ap (λ x. ls ++ x) k.split ∙ sym (append_assoc ls k.front k.rest);
  done = does_both c ls k.front p q k.broken h k.done;
  stop = k.stop;
}

first_of : (w : Prints) (c : Config) (ls ms : List ScriptLine) (p q : Place) → DoesFirst w c ls p q
    → DoesFirst w c (ls ++ ms) p q
first_of w c [] ms p q h = absurd h
first_of w c (x ∷ ls) ms p q h = h

stop_of : (w : Prints) (c : Config) (ls ms : List ScriptLine) (p q : Place) → (q ≡ p) ⊎ DoesFirst w c ls p q
    → (q ≡ p) ⊎ DoesFirst w c (ls ++ ms) p q
stop_of w c ls ms p q (inl same) = inl same
stop_of w c ls ms p q (inr does) = inr (first_of w c ls ms p q does)

pub early_within : (w : Prints) (c : Config) (ls ms : List ScriptLine) (p q : Place) → EndsEarly w c ls p q
    → EndsEarly w c (ls ++ ms) p q
early_within w c ls ms p q h = record {
  front = h.front;
  rest = h.rest ++ ms;
  broken = h.broken;
  split = ap (λ x. x ++ ms) h.split ∙ append_assoc h.front h.rest ms;
  done = h.done;
  stop = stop_of w c h.rest ms h.broken q h.stop;
}

-- all lines were done, and nothing more
pub early_behind : (w : Prints) (c : Config) (ls : List ScriptLine) (p q r : Place) → DoesLines c ls p q → r ≡ q
    → EndsEarly w c ls p r
early_behind w c ls p q r h same =
    record { front = ls; rest = []; broken = q; split = sym (append-nil ls); done = h; stop = inl same }

-- ---- whole runs

pub does_all : (c : Config) (ls : List ScriptLine) (p q r : Place) → DoesLines c (connect_line ∷ ls) p q
    → DoesJob c job.Disconnect q r → r.out ≡ q.out → DoesAll c ls p r
does_all c ls p q r h d same = record {
  told = h.told ++ d.told ∷ [];
  runs = runs_both c p.between q.between r.between (job.Connect ∷ map job_in ls) (job.Disconnect ∷ [])
      p.link q.link r.link h.told (d.told ∷ []) h.runs
      (runs_one c q.between job.Disconnect q.link r.link d.told r.between d.run);
  results = d.results ∙ ap (λ x. x ++ d.told ∷ []) h.results ∙ append_assoc p.results h.told (d.told ∷ []);
  text = ap (λ (o : OutShown). o.text) same ∙ h.text
      ∙ ap (append_known p.out.text)
      (report_past c p.between q.between (connect_line ∷ ls) p.link q.link h.told (d.told ∷ []) h.runs);
}

-- ---- by the calls

pub on_ok : {A E P Q : Type 0} (r : Result A E) → OnOk r P → (P → Q) → OnOk r Q
on_ok (Ok x) p f = f p
on_ok (Err e) p f = tt

pub this_err : {A E : Type 0} (P : Type 0) (r : Result A E) (e : E) → r ≡ Err e → OnErr r P → P
this_err P r e is p = subst (λ x. OnErr x P) is p

abbrev at : Shown → Between → List JobResult → OutShown → Place
at l b rs o = record { link = l; between = b; results = rs; out = o }

-- a job that wasn't begun leaves the place
pub same_place : (l l' : Shown) (b a : Between) (rs : List JobResult) (o : OutShown) → l' ≡ l → a ≡ b
    → at l' a rs o ≡ at l b rs o
same_place l l' b a rs o e f = ap (λ x. at x a rs o) e ∙ ap (λ x. at l x rs o) f

pub does_next : (c c1 : Config) (ys : List ScriptLine) (x : ScriptLine) (p q r : Place) → c1 ≡ c → DoesLines c ys p q
    → DoesLines c1 (x ∷ []) q r → DoesLines c (ys ++ x ∷ []) p r
does_next c c1 ys x p q r e h k = does_both c ys (x ∷ []) p q r h (subst (λ d. DoesLines d (x ∷ []) q r) e k)

pub early_inside : (w : Prints) (c c1 : Config) (ys rest all : List ScriptLine) (x : ScriptLine) (p q r : Place)
    → c1 ≡ c
    → ys ++ x ∷ rest ≡ all → DoesLines c ys p q → EndsEarly w c1 (x ∷ []) q r → EndsEarly w c all p r
early_inside w c c1 ys rest all x p q r e is h k =
    subst (λ ls. EndsEarly w c ls p r) is
    (early_after w c ys (x ∷ rest) p q r h
    (early_within w c (x ∷ []) rest q r (subst (λ d. EndsEarly w d (x ∷ []) q r) e k)))

pub early_in_lines : (w : Prints) (c c1 : Config) (ls : List ScriptLine) (p q r : Place) → c1 ≡ c
    → DoesLines c (connect_line ∷ []) p q → EndsEarly w c1 ls q r → EndsEarly w c (connect_line ∷ ls) p r
early_in_lines w c c1 ls p q r e h k =
    early_after w c (connect_line ∷ []) ls p q r h (subst (λ d. EndsEarly w d ls q r) e k)

lines_done : (c c1 : Config) (ls : List ScriptLine) (p q r : Place) → c1 ≡ c → DoesLines c (connect_line ∷ []) p q
    → DoesLines c1 ls q r → DoesLines c (connect_line ∷ ls) p r
lines_done c c1 ls p q r e h k =
    does_both c (connect_line ∷ []) ls p q r h (subst (λ d. DoesLines d ls q r) e k)

-- there was no disconnect
pub left_open : (w : Prints) (c c1 : Config) (ls : List ScriptLine) (p q r s : Place) → c1 ≡ c
    → DoesLines c (connect_line ∷ []) p q → DoesLines c1 ls q r → s ≡ r → EndsEarly w c (connect_line ∷ ls) p s
left_open w c c1 ls p q r s e h k same =
    early_behind w c (connect_line ∷ ls) p r s (lines_done c c1 ls p q r e h k) same

pub all_done : (c c1 c2 : Config) (ls : List ScriptLine) (p q r s : Place) → c1 ≡ c → c2 ≡ c
    → DoesLines c (connect_line ∷ []) p q → DoesLines c1 ls q r → DoesJob c2 job.Disconnect r s → s.out ≡ r.out
    → DoesAll c ls p s
all_done c c1 c2 ls p q r s e f h k d same =
    let last : DoesJob c job.Disconnect r s = subst (λ x. DoesJob x job.Disconnect r s) f d in
    does_all c ls p r s (lines_done c c1 ls p q r e h k) last same

-- a run that began with a fresh client, and no results
pub from_first : (c : Config) (ls : List ScriptLine) (q : Place) (how : Ended) (l : Shown) (b : Between)
    (rs : List JobResult) (o : OutShown) → b ≡ fresh → rs ≡ [] → Goes c ls (at l b rs o) q how
    → Goes c ls (first_place l o) q how
from_first c ls q how l b rs o e f h =
    subst (λ x. Goes c ls (at l fresh x o) q how) f (subst (λ x. Goes c ls (at l x rs o) q how) e h)

-- the same where the client was given a completion first
pub from_lent : (k k' : Connection) (ls : List ScriptLine) (q : Place) (how : Ended) (l : Shown) (rs : List JobResult)
    (o : OutShown) → k' ≡ k → between_of k ≡ fresh → rs ≡ [] → Goes (config_of k') ls (at l (between_of k') rs o) q how
    → Goes (config_of k) ls (first_place l o) q how
from_lent k k' ls q how l rs o same e f h =
    from_first (config_of k) ls q how l (between_of k) rs o e f
    (subst (λ x. Goes (config_of x) ls (at l (between_of x) rs o) q how) same h)
