-- What the text of a rig shows of the tags that are watched.
use Rattle.std.specs.Prelude.{◌≡◌, ℕ, ◌+◌, true, List, [], ◌++◌, length, map, slice_get, Some}
use Rattle.s7_area.specs.Memory.{Memory}
use Rattle.s7_plant.specs.State.{begins_with}
use Rattle.s7_session.specs.Books.{history_of}
use Rattle.s7_rig.specs.Shown.{ClientTold, EndTold}
use Rattle.s7_script.specs.declared.scripts.script_list.ScriptLine.{ScriptLine}
use Rattle.s7_symbol.specs.declared.tag.Tag.{Tag}
use Rattle.s7_watch.specs.Looks.{looks}
use Rattle.s7_watched.specs.Watched.{IsWatched}
use Rattle.s7_tool_main.specs.RigText.{heads_of, is_watcher_good, text_by, unfinished_text}

-- THE TEXT SHOWS A WATCH of these tags in this number of rounds: the last client of the rig is their watcher. Between
-- the lines of the scripts and that of the journal's length stand the lines of the samples that the areas held at the
-- watcher's entries in the history, and then a line if the watcher didn't come to its disconnect
pub record ShowsWatch (opening : Memory) (pdu : ℕ) (scripts : List (List ScriptLine)) (tags : List Tag) (rounds : ℕ)
    (end : EndTold) (text : List ℕ) : Type 0 where
  pub watcher : ClientTold
  pub at : slice_get end.clients (length scripts) ≡ Some watcher
  pub last : length end.clients ≡ length scripts + 1
  pub lines : List ℕ
  pub seen : IsWatched (begins_with opening) (history_of end.book) pdu tags rounds watcher lines
  -- a watcher that came to its disconnect, with code 0 in all results, has samples of all tags in all rounds
  pub whole : is_watcher_good (Some watcher) ≡ true
      → (length seen.readings ≡ length (looks tags rounds)) × (seen.end ≡ [])
  pub text_is : text ≡ text_by (map heads_of scripts) (lines ++ unfinished_text watcher) end
