use Rattle.std.proofs.Common.{◌≡◌, ◌∙◌, ap, sym, refl, codes, map, List, [], ◌∷◌, Option, Some, None, Bool, cond, true, false, option_map}
use Rattle.std.specs.Prelude.{slice_get}
use Rattle.std.specs.Borrow.{Bor}
use Rattle.std.specs.Str.{bytes_eq}
use Rattle.std.proofs.lemmas.Slice.Eq.{bytes_eq-Decides}
use Rattle.s7_args.specs.CommandLine.{Text, given_by}
use Rattle.s7_args.specs.Server.{server_words, ServerTold, pipe_line, pipe_of, serve_line, serve_of}
use Rattle.s7_args.proofs.server.read_server_words.Goals as goal

-- words that begin with another name are usage
others : (ws : List (Bor Text)) (name : Bor Text) → Some name ≡ slice_get ws 0 → (name.now ≡ codes "pipe" → ⊥) → (name.now ≡ codes "serve" → ⊥)
    → ◌≡◌ {A = Option ServerTold} None (server_words (map (λ w. w.now) ws))
others [] name is no_pipe no_serve = cc
others (w ∷ ws) name is no_pipe no_serve =
    let same : w ≡ name = cc in
    go (bytes_eq w.now (codes "pipe")) (bytes_eq w.now (codes "serve")) refl refl (ap (λ (b : Bor Text). b.now) same)
  where
    rest : List Text
    rest = map (λ w. w.now) ws

    go : (a b : Bool) → bytes_eq w.now (codes "pipe") ≡ a → bytes_eq w.now (codes "serve") ≡ b → w.now ≡ name.now
        → ◌≡◌ {A = Option ServerTold} None (cond a (option_map pipe_of (given_by pipe_line rest)) (cond b (option_map serve_of (given_by serve_line rest)) None))
    go true b is_pipe is_serve first = absurd (no_pipe (sym first ∙ (bytes_eq-Decides w.now (codes "pipe")).0 is_pipe))
    go false true is_pipe is_serve first = absurd (no_serve (sym first ∙ (bytes_eq-Decides w.now (codes "serve")).0 is_serve))
    go false false is_pipe is_serve first = refl

pub returns-in_default-name : goal.returns-in_default-name
returns-in_default-name c = record {
  told = others c.args.words.now c.in-Some.name.now c.in-Some.ensures.value c.in_default-name.not-pipe c.in_default-name.not-serve;
  journal = tt;
  port = tt;
  links = tt;
}
