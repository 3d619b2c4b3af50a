-- The text that is printed of the rig of `gen`.
use Rattle.std.specs.Prelude.{ℕ, ◌==◌, ◌&&◌, not, Bool, List, ◌++◌, codes, length, take, sum, sum_by}
use Rattle.std.specs.Prelude.{option_map, unwrap_or}
use Rattle.std.specs.Fmt.{decimal}
use Rattle.std.specs.List.{count_by, flat_map, list_all}
use Rattle.std.specs.Map.{values_of}
use Rattle.s7_area.specs.declared.key.AreaKey.{AreaKey}
use Rattle.s7_area.specs.Memory.{Memory, area_octets}
use Rattle.s7_dialogue.specs.declared.job.JobResult.{JobResult}
use Rattle.s7_rig.specs.Shown.{ClientTold, EndTold}
use Rattle.s7_program.specs.Lines.{journal_line, line_end}
use Rattle.s7_tool_main.specs.Run.{is_good}

-- ---- one client

-- the results of the connect and of the 200 lines; that of the disconnect isn't counted
unfoldable pub counted : List JobResult → List JobResult
counted results = take 201 results

abbrev pub errors_in : List JobResult → ℕ
errors_in results = count_by (λ told. not (is_good told)) results

abbrev pub octets_in : List JobResult → ℕ
octets_in results = sum_by (λ told. length told.octets) results

-- the line of these results: their number, the number of codes other than 0, and the number of their octets
abbrev pub tally_line : ℕ → List JobResult → List ℕ
tally_line link results =
    codes "client " ++ (decimal link ++ (codes " results " ++ (decimal (length results)
    ++ (codes " errors " ++ (decimal (errors_in results)
    ++ (codes " octets " ++ (decimal (octets_in results) ++ line_end)))))))

abbrev pub client_tally : ClientTold → List ℕ
client_tally c = tally_line c.link (counted c.results)

-- ---- the whole rig

-- the sum of all octets of all areas
abbrev pub octet_sum : Memory → ℕ
octet_sum m = sum_by sum (values_of m.areas)

-- the sum of the octets of the area of this name, 0 if there is none
abbrev pub sum_at : Memory → AreaKey → ℕ
sum_at m key = unwrap_or (option_map sum (area_octets m key)) 0

abbrev pub sum_line : ℕ → List ℕ
sum_line count = codes "sum " ++ (decimal count ++ line_end)

-- THE TEXT: a line for each client in order, the journal's length, and the sum of the octets that are left in the areas
abbrev pub made_text : EndTold → List ℕ
made_text end =
    flat_map client_tally end.clients
    ++ (journal_line (length end.book.journal.entries) ++ sum_line (octet_sum end.book.plant.areas))

-- ---- whether all went well

-- a client has the results of a connect, of 200 lines and of a disconnect, each with code 0
abbrev pub is_made_good : ClientTold → Bool
is_made_good c = length c.results == 202 && list_all is_good c.results

-- there are four clients, and each did all its jobs with code 0
abbrev pub are_made_good : List ClientTold → Bool
are_made_good clients = length clients == 4 && list_all is_made_good clients
