-- The text that is printed of a rig.
use Rattle.std.specs.Prelude.{◌≡◌, ℕ, All, ◌+◌, ◌-◌, ◌==◌, ◌&&◌, Bool, true, false, List, [], ◌∷◌, ◌++◌}
use Rattle.std.specs.Prelude.{length, drop, map, slice_get, codes, Option, None, Some, if◌then◌else◌}
use Rattle.std.specs.Fmt.{decimal}
use Rattle.std.specs.List.{list_all, zip}
use Rattle.s7_dialogue.specs.declared.job.Job.{Job}
use Rattle.s7_dialogue.specs.declared.job.Job.TheVariants as job
use Rattle.s7_dialogue.specs.declared.job.JobResult.{JobResult}
use Rattle.s7_rig.specs.Shown.{ClientTold, EndTold}
use Rattle.s7_script.specs.Printing.{IsPrintable}
use Rattle.s7_script.specs.declared.scripts.script_list.ScriptLine.{ScriptLine}
use Rattle.s7_symbol.specs.declared.tag.Tag.{Tag}
use Rattle.s7_watch.specs.Lines.{nothing_seen, result_lines}
use Rattle.s7_watch.specs.Looks.{looks}
use Rattle.s7_args.specs.Tool.{client_count}
use Rattle.s7_program.specs.Lines.{journal_line, line_end}
use Rattle.s7_tool_main.specs.declared.head.Head.{Head}
use Rattle.s7_tool_main.specs.Report.{line_by}
use Rattle.s7_tool_main.specs.Run.{connect_line, is_good}

-- what a printed line needs of the line of a script: its number, and the type of the tag that it names
abbrev pub head_of : ScriptLine → Head
head_of next = record { line = next.line; tag = next.tag }

-- the heads of a client's lines: that of the connect, and those of the script
abbrev pub heads_of : List ScriptLine → List Head
heads_of lines = head_of connect_line ∷ map head_of lines

-- a connect, the lines and a disconnect were all done
abbrev pub is_finished : List Head → ClientTold → Bool
is_finished heads c = length c.results == length heads + 1

-- ---- what is printed

-- each of a client's results can be printed
abbrev pub ArePrintable : ClientTold → Type 0
ArePrintable c = All IsPrintable c.results

abbrev pub client_line : ℕ → List ℕ → List ℕ
client_line link text = codes "client " ++ (decimal link ++ (codes " line " ++ text))

abbrev pub unfinished_line : ℕ → List ℕ
unfinished_line link = codes "client " ++ (decimal link ++ (codes " unfinished" ++ line_end))

-- the line for the result of each job that has one
unfoldable pub results_text : ℕ → List Head → List JobResult → List ℕ
results_text link [] results = []
results_text link (head ∷ heads) [] = []
results_text link (head ∷ heads) (told ∷ results) =
    client_line link (line_by head.line head.tag told) ++ results_text link heads results

-- the result of the disconnect isn't printed
abbrev pub client_text : List Head → ClientTold → List ℕ
client_text heads c =
    results_text c.link heads c.results ++ (if is_finished heads c then [] else unfinished_line c.link)

unfoldable pub clients_text : List (List Head) → List ClientTold → List ℕ
clients_text [] clients = []
clients_text (heads ∷ scripts) [] = []
clients_text (heads ∷ scripts) (c ∷ clients) = client_text heads c ++ clients_text scripts clients

-- the last result is that of a disconnect
abbrev pub is_disconnect : Job → Bool
is_disconnect job.Disconnect = true
is_disconnect _ = false

abbrev pub is_last : Option JobResult → Bool
is_last None = false
is_last (Some told) = is_disconnect told.job

abbrev pub has_left : List JobResult → Bool
has_left results = is_last (slice_get results (length results - 1))

-- a line if the watcher didn't come to its disconnect
abbrev pub unfinished_text : ClientTold → List ℕ
unfinished_text c = if has_left c.results then [] else unfinished_line c.link

-- the lines of the watcher's reads, which follow its connect, and a line if it didn't come to its disconnect
abbrev pub lines_of : List Tag → ℕ → Option ClientTold → List ℕ
lines_of tags rounds None = []
lines_of tags rounds (Some c) =
    result_lines (nothing_seen tags) (looks tags rounds) (drop 1 c.results) ++ unfinished_text c

-- THE TEXT of the watcher of these tags; it is empty if no tags are watched
abbrev pub watch_text : Option (List Tag) → ℕ → Option ClientTold → List ℕ
watch_text None rounds watcher = []
watch_text (Some tags) rounds watcher = lines_of tags rounds watcher

abbrev pub text_by : List (List Head) → List ℕ → EndTold → List ℕ
text_by heads watched end =
    clients_text heads end.clients ++ (watched ++ journal_line (length end.book.journal.entries))

-- the watcher is the client after those of the scripts
abbrev pub watcher_of : List (List ScriptLine) → List ClientTold → Option ClientTold
watcher_of scripts clients = slice_get clients (length scripts)

-- THE TEXT of a rig: for each client, in order, the results of its lines, and a line if it isn't finished; then that of
-- the watcher of these tags, and the journal's length
abbrev pub rig_text : List (List ScriptLine) → Option (List Tag) → ℕ → EndTold → List ℕ
rig_text scripts watched rounds end =
    text_by (map heads_of scripts) (watch_text watched rounds (watcher_of scripts end.clients)) end

-- ---- whether all went well

-- a client is finished, and each of its results has code 0
abbrev pub is_client_good : List Head → ClientTold → Bool
is_client_good heads c = is_finished heads c && list_all is_good c.results

-- there are this many clients, and each of the first ones, whose lines have these heads, is finished with code 0 in all
-- results
abbrev pub are_good_by : List (List Head) → ℕ → List ClientTold → Bool
are_good_by heads count clients =
    length clients == count && list_all (λ p. is_client_good p.0 p.1) (zip heads clients)

-- the watcher came to its disconnect, and each of its results has code 0
abbrev pub is_watcher_good : Option ClientTold → Bool
is_watcher_good None = false
is_watcher_good (Some c) = has_left c.results && list_all is_good c.results

abbrev pub is_watch_good : Option (List Tag) → Option ClientTold → Bool
is_watch_good None watcher = true
is_watch_good (Some tags) watcher = is_watcher_good watcher

-- Each script has a client, which is finished with code 0 in all results. If tags are watched, the client after these
-- is the watcher, which came to its disconnect with code 0 in all results. There are no other clients.
abbrev pub are_clients_good : List (List ScriptLine) → Option (List Tag) → List ClientTold → Bool
are_clients_good scripts watched clients =
    are_good_by (map heads_of scripts) (client_count (length scripts) watched) clients
    && is_watch_good watched (watcher_of scripts clients)
