-- A job that can come off does, where no history was full and no clock failed.
use Rattle.std.proofs.Common.{◌≡◌, ℕ, ◌≤◌, Bool, true, false, cond, eqb, Option, Some, List, [], ◌∷◌}
use Rattle.std.proofs.Common.{length, refl, ap, sym, ◌∙◌, subst, arith}
use Rattle.std.specs.Prelude.{replicate}
use Rattle.std.specs.List.{AllByRecursion}
use Rattle.std.proofs.lemmas.List.{length-replicate}
use Rattle.std.proofs.lemmas.Bool.{eq-eqb, lt-ltb}
use Rattle.s7_item.specs.declared.item.Item.{Item}
use Rattle.s7_item.specs.Item.{octet_count}
use Rattle.s7_area.specs.Guards.{is_read_barred, is_write_barred}
use Rattle.s7_area.specs.Memory.{Memory}
use Rattle.s7_split.specs.Parts.{parts_of}
use Rattle.s7_split.specs.Groups.{groups_of}
use Rattle.s7_plant.specs.Answers.{service_function}
use Rattle.s7_block.specs.declared.block.BlockName.{BlockName}
use Rattle.s7_block.proofs.DigitLemmas.{names_read}
use Rattle.s7_clock.specs.declared.control.Control.{Control}
use Rattle.s7_clock.specs.declared.control.Control.TheVariants as control
use Rattle.s7_clock.specs.Moment.{moment_octets}
use Rattle.s7_dialogue.specs.declared.grant.Grant.{Grant}
use Rattle.s7_dialogue.specs.declared.grant.Leaves.TheVariants.{AsItWas}
use Rattle.s7_dialogue.specs.declared.job.Job.{Job}
use Rattle.s7_dialogue.specs.declared.job.Job.TheVariants as job
use Rattle.s7_dialogue.specs.declared.questions.subject.Subject.{Subject}
use Rattle.s7_dialogue.specs.declared.questions.subject.Subject.TheVariants.{StatusList, RunState, BlockCounts, Clock, ClockSetting}
use Rattle.s7_dialogue.specs.declared.questions.subject.Subject.TheVariants.{BlocksOfKind, BlockHead}
use Rattle.s7_dialogue.specs.Question.{Question, controls, asks}
use Rattle.s7_dialogue.specs.Answer.{Answer}
use Rattle.s7_dialogue.specs.Refusals.{part_refusal, telegram_refusal, control_refusal}
use Rattle.s7_dialogue.specs.Checks.{check_item, check_items, check_moment, octet_count_of}
use Rattle.s7_dialogue.specs.Flight.{answers_of}
use Rattle.s7_dialogue.specs.Dialogue.{End, Conduct, Plan, number_end, over, read_questions, write_questions}
use Rattle.s7_dialogue.specs.Dialogue.{first_refusal}
use Rattle.s7_dialogue.specs.Dialogue.{plain_number, write_number, by_refusal, octets_told, codes_told, good_end, alone}
use Rattle.s7_dialogue.specs.Dialogue.{listed, if_good, connected_plan}
use Rattle.s7_dialogue.specs.Dialogue.{getting, filling, fill_number, block_octets, kind_octets}
use Rattle.s7_dialogue.specs.DataBlocks.{data_parts}
use Rattle.s7_dialogue.specs.Stages.{joined}
use Rattle.s7_dialogue.proofs.GroupLemmas.{joined_alone}
use Rattle.s7_dialogue.specs.Dialogue.{controlling, uploading, octets_brought, brought_end, last_answer, next_piece, asking_about, list_octets}
use Rattle.s7_dialogue.proofs.FlightLemmas.{same_some}
use Rattle.s7_client.proofs.FitLemmas.{one_of_all}
use Rattle.s7_rig.specs.Scripts.{IsNoConnect}
use Rattle.s7_rig.specs.Complete.{IsThere, IsBlock, HasBlock, data_block, CanComeOff}
use Rattle.s7_rig.specs.Exchanges.{IsSecurity}
use Rattle.s7_rig.specs.Exchanges.{NamesNone}
use Rattle.s7_rig.proofs.Conversing.{Exchange, rows_of, Converses}
use Rattle.s7_rig.proofs.HoldPieces.{behind_is}
use Rattle.s7_rig.proofs.HoldData.{IsOfItems, reads_items, writes_items}
use Rattle.s7_rig.proofs.HoldReplies.{IsGood, counts_good, lists_good, mode_good, clock_good, setting_good}
use Rattle.s7_rig.proofs.HoldReplies.{IsDoneAs, compress_done, copy_done}
use Rattle.s7_rig.proofs.UploadAsksLemmas.{of_upload}
use Rattle.s7_rig.proofs.UploadOffLemmas.{upload_good}
use Rattle.s7_rig.proofs.PartLemmas.{asked_each}
use Rattle.s7_rig.proofs.OffLemmas.{AreSound, NoneRefuses, unrefused}
use Rattle.s7_rig.proofs.BlockOffLemmas.{some_is, data_there, data_octets, head_good, list_good, names_block, names_kind}
use Rattle.s7_rig.proofs.DataOffLemmas.{data_off}
use Rattle.s7_rig.proofs.UnrefusedLemmas.{IsFree, FindsAll, IsControl, NamesNoBlock, IsAbout, IsUploadOf}
use Rattle.s7_rig.proofs.UnrefusedLemmas.{part_unrefused, items_unrefused, control_unrefused, about_unrefused}
use Rattle.s7_rig.proofs.UnrefusedLemmas.{upload_unrefused}
use Rattle.s7_rig.proofs.AskedItems.{AsksFor, alone_each, reads_for, writes_for, part_reads_for, part_writes_for}
use Rattle.s7_rig.proofs.PlacedLemmas.{parts_placed, read_freed}

-- ---- questions of a list

both : (P Q : Question → Type 0) (questions : List Question) → AllByRecursion P questions
    → AllByRecursion Q questions → AllByRecursion (λ (q : Question). P q × Q q) questions
both P Q [] ps qs = tt
both P Q (q ∷ questions) ps qs = ((ps.0, qs.0), both P Q questions ps.1 qs.1)

piece_about : (subject : Subject) (octets : List ℕ) (answers : List (Option Answer)) (question : Question)
    → next_piece subject octets answers ≡ Some question → IsAbout subject octets question
piece_about subject octets [] question is =
    subst (IsAbout subject octets) (same_some (asks subject octets) question is) (refl, refl)
piece_about subject octets (first ∷ answers) question is =
    let further =
    behind_is subject (octets_brought (first ∷ answers)) (last_answer first answers) question is in
    subst (IsAbout subject octets) (sym further.1) tt

-- ---- jobs

module _ (n : Memory) (right : Bool) (pdu : ℕ) where
  -- An end by answers that refuse nothing is good.
  off_by : (c : Conduct) (refusal : Answer → Option ℕ) (number : ℕ → ℕ → ℕ) (finished : List (Option Answer) → End)
      (P : Question → Type 0) (end : End) (xs : List Exchange)
      → NoneRefuses n right pdu refusal P
      → ((answers : List (Option Answer)) (question : Question) → c.question_at answers ≡ Some question → P question)
      → ((answers : List (Option Answer))
      → c.ended answers ≡ by_refusal number (first_refusal refusal 0 answers) (finished answers))
      → ((answers : List (Option Answer)) → (finished answers).code ≡ 0) → Converses pdu c end xs
      → AreSound n right xs → end.code ≡ 0
  off_by c refusal number finished P end xs each questions ends good went sound =
      let answers = answers_of (rows_of xs) in
      ap (λ (e : End). e.code) (went.is ∙ ends answers)
      ∙ (ap (λ r. (by_refusal number r (finished answers)).code)
      (unrefused n right pdu refusal P each 0 xs (asked_each P c 0 xs questions went.asked) went.told sound)
      ∙ good answers)

  -- a job whose questions are those of a list comes off
  listed_off : (grant : Grant) (questions : List Question) (refusal : Answer → Option ℕ) (number : ℕ → ℕ → ℕ)
      (finished : List (Option Answer) → End) (P : Question → Type 0) (end : End) (xs : List Exchange)
      → NoneRefuses n right pdu refusal P
      → AllByRecursion P questions → ((answers : List (Option Answer)) → (finished answers).code ≡ 0)
      → Converses pdu (listed grant questions refusal number finished).conduct end xs
      → AreSound n right xs → end.code ≡ 0
  listed_off grant questions refusal number finished P end xs each all good went sound =
      off_by (listed grant questions refusal number finished).conduct refusal number finished P end xs each
      (λ answers question at. one_of_all P questions (length answers) question all at) (λ answers. refl) good went
      sound

  -- one that calls a control
  control_off : (c : Control) (function : ℕ) (end : End) (xs : List Exchange) → NamesNoBlock c
      → IsDoneAs n right c function → Converses pdu (controlling c) end xs → AreSound n right xs
      → end.code ≡ 0
  control_off c function end xs named done went sound =
      off_by (controlling c) (control_refusal c) plain_number (λ answers. good_end [] []) (IsControl c) end xs
      (λ own all_done. control_unrefused n right pdu own all_done c function named done)
      (λ answers question at. one_of_all (IsControl c) (controls c ∷ []) (length answers) question (refl, tt) at)
      (λ answers. refl) (λ answers. refl) went sound

  -- and one that asks for user data
  about_off : (subject : Subject) (octets : List ℕ) (end : End) (xs : List Exchange) → (IsSecurity subject → ⊥)
      → (NamesNone subject octets → ⊥) → IsGood n right subject octets
      → Converses pdu (asking_about subject octets) end xs → AreSound n right xs → end.code ≡ 0
  about_off subject octets end xs plain named good went sound =
      off_by (asking_about subject octets) telegram_refusal plain_number
      (brought_end subject) (IsAbout subject octets) end xs
      (λ own all_done. about_unrefused n right pdu own all_done subject octets plain named good)
      (piece_about subject octets)
      (λ answers. refl) (λ answers. refl) went sound

  -- one that uploads a data block
  upload_off : (number : ℕ) (end : End) (xs : List Exchange) → HasBlock n number → is_read_barred n.guard right ≡ false
      → Converses pdu (uploading (record { kind = 0x41; number = number })) end xs
      → AreSound n right xs → end.code ≡ 0
  upload_off number end xs has free went sound =
      let name : BlockName = record { kind = 0x41; number = number } in
      off_by (uploading name) telegram_refusal plain_number (λ answers. good_end (octets_brought answers) [])
      (IsUploadOf name) end xs
      (λ own all_done. upload_unrefused n right pdu own all_done name
      (names_read.names name 0x41 (lt-ltb number 65536 has.0))
      (λ given s same is. upload_good s given n number same (read_freed n.guard right given is free) has))
      (λ answers question at. of_upload (IsUploadOf name) (λ id size so_far. tt) (λ id. tt) name answers question refl
      at)
      (λ answers. refl) (λ answers. refl) went sound

  reads_free : (groups : List (List Item)) → is_read_barred n.guard right ≡ false
      → AllByRecursion (IsFree n right) (read_questions groups)
  reads_free [] free = tt
  reads_free (group ∷ groups) free = (free, reads_free groups free)

  writes_free : (groups : List (List Item)) (octets : List ℕ) → is_write_barred n.guard right ≡ false
      → AllByRecursion (IsFree n right) (write_questions groups octets)
  writes_free [] octets free = tt
  writes_free (group ∷ groups) octets free = (free, writes_free groups _ free)

  -- a job that reads a whole data block comes off
  get_off : (number : ℕ) (grant : Grant) (end : End) (xs : List Exchange) → IsBlock n number
      → is_read_barred n.guard right ≡ false → 64 ≤ grant.pdu → 64 ≤ pdu
      → Converses pdu (getting grant.pdu (block_octets 0x41 number) number) end xs → AreSound n right xs
      → end.code ≡ 0
  get_off number grant end xs block free least room went sound =
      let found = some_is (data_block n number) block.1 in
      let parts = data_parts number (length found.0) grant.pdu false in
      let there = data_there n number found.0 found.1 grant.pdu false least in
      let answers = answers_of (rows_of xs) in
      let each = both (AsksFor (IsThere n)) (IsFree n right) (read_questions (alone parts))
      (reads_for (IsThere n) (alone parts) (alone_each (IsThere n) parts there)) (reads_free (alone parts) free) in
      ap (λ (e : End). e.code) went.is
      ∙ ap (λ r. (by_refusal plain_number r (good_end (octets_told answers) [])).code)
      (data_off n right pdu number block room (getting grant.pdu (block_octets 0x41 number) number)
      (λ size. read_questions (alone (data_parts number size grant.pdu false))) (λ others. refl) each end xs
      (omega arith) went sound)

  -- and one that fills it
  fill_off : (number value : ℕ) (grant : Grant) (end : End) (xs : List Exchange) → IsBlock n number
      → is_write_barred n.guard right ≡ false → 64 ≤ grant.pdu → 64 ≤ pdu
      → Converses pdu (filling grant.pdu (block_octets 0x41 number) number value) end xs → AreSound n right xs
      → end.code ≡ 0
  fill_off number value grant end xs block free least room went sound =
      let found = some_is (data_block n number) block.1 in
      let size : ℕ = length found.0 in
      let parts = data_parts number size grant.pdu true in
      let octets : List ℕ = replicate size value in
      let there = data_there n number found.0 found.1 grant.pdu true least in
      let whole : length octets ≡ octet_count_of (joined (alone parts)) =
      length-replicate size value
      ∙ sym (ap octet_count_of (joined_alone parts) ∙ data_octets number size grant.pdu least) in
      let answers = answers_of (rows_of xs) in
      let each = both (AsksFor (IsThere n)) (IsFree n right) (write_questions (alone parts) octets)
      (writes_for (IsThere n) (alone parts) octets (alone_each (IsThere n) parts there) whole)
      (writes_free (alone parts) octets free) in
      ap (λ (e : End). e.code) went.is
      ∙ ap (λ r. (by_refusal (fill_number answers) r (good_end [] [])).code)
      (data_off n right pdu number block room (filling grant.pdu (block_octets 0x41 number) number value)
      (λ k. write_questions (alone (data_parts number k grant.pdu true)) (replicate k value)) (λ others. refl) each
      end xs (omega arith) went sound)

  checked : (check : ℕ) (plan : Plan) (end : End) (xs : List Exchange) → check ≡ 0
      → Converses pdu (if_good check plan).conduct end xs → Converses pdu plan.conduct end xs
  checked check plan end xs good c =
      subst (λ b. Converses pdu (cond b plan (over (number_end check AsItWas))).conduct end xs)
      (eq-eqb check 0 good) c

  -- A job on a connected client that went by exchanges comes off, where it can.
  pub comes_off : (done : Job) (grant : Grant) (end : End) (xs : List Exchange) → IsNoConnect done → 64 ≤ grant.pdu
      → 64 ≤ pdu → AreSound n right xs → Converses pdu (connected_plan done grant).conduct end xs
      → CanComeOff n right grant.pdu done → end.code ≡ 0
  comes_off job.Connect grant end xs none least room sound c can = absurd none
  comes_off (job.ReadArea item) grant end xs none least room sound c can =
      let parts = parts_of item grant.pdu false in
      let questions = read_questions (alone parts) in
      let there = parts_placed n item true grant.pdu false can.0 least can.1 in
      listed_off grant questions part_refusal plain_number (λ answers. good_end (octets_told answers) [])
      (FindsAll n right) end xs (part_unrefused n right pdu)
      (both (AsksFor (IsThere n)) (IsFree n right) questions (part_reads_for (IsThere n) item grant.pdu there)
      (reads_free (alone parts) can.2))
      (λ answers. refl) (checked (check_item item true) _ end xs can.0 c) sound
  comes_off (job.WriteArea item octets) grant end xs none least room sound c can =
      let has = eqb (length octets) (octet_count item) in
      let parts = parts_of item grant.pdu true in
      let questions = write_questions (alone parts) octets in
      let there = parts_placed n item has grant.pdu true can.0 least can.1 in
      listed_off grant questions part_refusal write_number (λ answers. good_end [] []) (FindsAll n right) end xs
      (part_unrefused n right pdu)
      (both (AsksFor (IsThere n)) (IsFree n right) questions
      (part_writes_for (IsThere n) item octets grant.pdu least can.0 there)
      (writes_free (alone parts) octets can.2))
      (λ answers. refl) (checked (check_item item has) _ end xs can.0 c) sound
  comes_off (job.ReadMany items) grant end xs none least room sound c can =
      let questions = read_questions (groups_of grant.pdu false items) in
      listed_off grant questions telegram_refusal plain_number
      (λ answers. good_end (octets_told answers) (codes_told answers)) IsOfItems end xs
      (items_unrefused n right pdu) (reads_items (groups_of grant.pdu false items)) (λ answers. refl)
      (checked (check_items items true grant.pdu false) _ end xs can c) sound
  comes_off (job.WriteMany items octets) grant end xs none least room sound c can =
      let has = eqb (length octets) (octet_count_of items) in
      let questions = write_questions (groups_of grant.pdu true items) octets in
      listed_off grant questions telegram_refusal plain_number (λ answers. good_end [] (codes_told answers))
      IsOfItems end xs (items_unrefused n right pdu)
      (writes_items (groups_of grant.pdu true items) octets) (λ answers. refl)
      (checked (check_items items has grant.pdu true) _ end xs can c) sound
  comes_off job.List grant end xs none least room sound c can =
      about_off BlockCounts [] end xs (λ secures. secures) (λ names. names) (counts_good n right) c sound
  comes_off (job.ListOf kind) grant end xs none least room sound c can =
      about_off BlocksOfKind (kind_octets 0x41) end xs (λ secures. secures) names_kind
      (list_good n right can.1.0 can.1.1)
      (subst (λ k. Converses pdu (asking_about BlocksOfKind (kind_octets k)) end xs) can.0 c) sound
  comes_off (job.Info kind number) grant end xs none least room sound c can =
      about_off BlockHead (block_octets 0x41 number) end xs (λ secures. secures) (names_block number can.1.0)
      (head_good n right number can.1)
      (subst (λ k. Converses pdu (asking_about BlockHead (block_octets k number)) end xs) can.0 c) sound
  comes_off (job.Upload kind number) grant end xs none least room sound c can =
      upload_off number end xs can.1 can.2
      (subst (λ k. Converses pdu (uploading (record { kind = k; number = number })) end xs) can.0 c) sound
  comes_off (job.DbGet number) grant end xs none least room sound c can =
      get_off number grant end xs can.0 can.1 least room c sound
  comes_off (job.DbFill number value) grant end xs none least room sound c can =
      fill_off number value grant end xs can.0 can.1 least room c sound
  comes_off (job.Szl id index) grant end xs none least room sound c can =
      about_off StatusList (list_octets id index) end xs (λ secures. secures) (λ names. names)
      (lists_good n right id index can) c sound
  comes_off job.ClockRead grant end xs none least room sound c can =
      about_off Clock [] end xs (λ secures. secures) (λ names. names) (clock_good n right) c sound
  comes_off (job.ClockSet moment) grant end xs none least room sound c can =
      about_off ClockSetting (moment_octets moment) end xs (λ secures. secures) (λ names. names)
      (setting_good n right (moment_octets moment) can.1) (checked (check_moment moment) _ end xs can.0 c) sound
  comes_off job.Compress grant end xs none least room sound c can =
      control_off control.Compress service_function end xs tt (compress_done n right can) c sound
  comes_off job.CopyRam grant end xs none least room sound c can =
      control_off control.CopyRam service_function end xs tt (copy_done n right can) c sound
  comes_off job.Status grant end xs none least room sound c can =
      about_off RunState (list_octets 0x0424 0) end xs (λ secures. secures) (λ names. names) (mode_good n right) c
      sound
  comes_off job.Disconnect grant end xs none least room sound c can = ap (λ (e : End). e.code) c.is
  comes_off _ grant end xs none least room sound c can = absurd can
