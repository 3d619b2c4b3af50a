-- A link is granted no PDU above the greatest one.
use Rattle.std.proofs.Common.{◌≡◌, ℕ, ◌+◌, ◌≤◌, Bool, true, false, cond, ◌&&◌, ◌||◌, not, List, [], ◌∷◌, length, drop, subst}
use Rattle.std.specs.Prelude.{◌==◌, nat_lt, nat_le, slice_index, min, Option, None, Some, Result, Ok, Err}
use Rattle.std.specs.Str.{bytes_eq}
use Rattle.std.proofs.Math.Nat.{min-le_right}
use Rattle.s7_header.specs.declared.header.Header.{Header}
use Rattle.s7_header.specs.declared.faults.HeaderFault.{HeaderFault}
use Rattle.s7_header.specs.declared.header.Kind.{Kind}
use Rattle.s7_header.specs.declared.header.Kind.TheVariants.{Job, Ack, AckData, User}
use Rattle.s7_header.specs.declared.negotiation.Negotiation.{Negotiation}
use Rattle.s7_header.specs.declared.user_params.UserParams.{UserParams}
use Rattle.s7_header.specs.declared.faults.BadParams.{BadParams}
use Rattle.s7_header.specs.Octets.{number_at}
use Rattle.s7_header.specs.Header.{header_of, params_of, body_of}
use Rattle.s7_header.specs.Negotiation.{negotiation_of, granted, jobs_granted, least_pdu, most_pdu}
use Rattle.s7_header.specs.UserParams.{user_params_of}
use Rattle.s7_item.specs.declared.item.Item.{Item}
use Rattle.s7_item.specs.declared.places.DataPlace.{DataPlace}
use Rattle.s7_item.specs.declared.params.ItemFault.{ItemFault}
use Rattle.s7_item.specs.declared.read_data.DataFault.{DataFault}
use Rattle.s7_item.specs.Codes.{read_function, write_function}
use Rattle.s7_item.specs.Params.{items_of}
use Rattle.s7_item.specs.DataItem.{data_places_of}
use Rattle.s7_item.specs.Sizes.{answer_size}
use Rattle.s7_clock.specs.Control.{control_of}
use Rattle.s7_clock.specs.Moment.{moment_in}
use Rattle.s7_clock.specs.declared.control.Control.{Control}
use Rattle.s7_clock.specs.declared.control.Control.TheVariants as control
use Rattle.s7_clock.specs.declared.faults.BadParams.{BadParams as BadControl}
use Rattle.s7_block.specs.declared.block.BlockName.{BlockName}
use Rattle.s7_block.specs.Assembly.{Progress, idle, awaiting, whole, with_piece}
use Rattle.s7_block.specs.Heads.{head_agrees}
use Rattle.s7_block.specs.Kinds.{is_stored_kind}
use Rattle.s7_block.specs.Sides.{left_in, is_held}
use Rattle.s7_block.specs.Slices.{Piece}
use Rattle.s7_plant.specs.Answers.{service_function, stop_function}
use Rattle.s7_plant.specs.Replies.{Said}
use Rattle.s7_plant.specs.Requests.{no_room}
use Rattle.s7_plant.specs.declared.request.Request.TheVariants.{Read, Write}
use Rattle.s7_plant.specs.declared.request.Request.TheVariants as request
use Rattle.s7_wire.specs.Reading.{Event, opened, message}
use Rattle.s7_session.specs.Events.{Standing, lives, stops, unjudged, closes, Made, made, is_s7, by_judgement, asks, by_clock}
use Rattle.s7_session.specs.Judgement.{Judgement, Asking, refuse, own, ask, judge, sequence_of, negotiation, read, write_of, write}
use Rattle.s7_session.specs.Judgement.{insert, control_asked, control_in, upload_started, upload_sliced, slice_asked, end_asked}
use Rattle.s7_session.specs.Judgement.{download_started, download_begun, transfer, is_transfer, function, function_at, job, further_of}
use Rattle.s7_session.specs.Judgement.{further, is_slice_of, slice_octets, slices_left, list_read, names_list, lists, asks_user}
use Rattle.s7_session.specs.Judgement.{clock_read, names_moment, clock_set_to, clock_set, clock, password_set, password_cleared}
use Rattle.s7_session.specs.Judgement.{security, security_answer, names_kind, kind_listed, informed, block_told, blocks_asked, blocks}
use Rattle.s7_session.specs.Judgement.{group, user_at, pdu_limit, kinds, headed, piece_came, closed, dropped, job_answered, answer_came}
use Rattle.s7_session.specs.Judgement.{answers_job, by_server_job, no_request, is_request, negotiated, asks_plainly, answer_octets}
use Rattle.s7_session.specs.LinkState.{LinkState, Sliced, ServerJob, Download, next_octet}
use Rattle.s7_session.specs.Owed.{Past, start, with_made, if_lives, next, run}
use Rattle.s7_session.specs.Passwords.{decoded, is_password, no_data, set_error, clear_error}
use Rattle.s7_session.specs.Transfers.{Announced, upload_asked, download_announced, id_in, announce_function, start_function}
use Rattle.s7_session.specs.Transfers.{slice_function, end_function, piece_function, close_function, finished, piece_in}
use Rattle.s7_session.specs.Transfers.{with_upload, piece_left}
use Rattle.s7_session.specs.Verdict.{Verdict, Entered, Full, ClockFailed, NoMemory}
use Rattle.s7_listener.specs.Complete.{GrantsAreBounded}
use Rattle.s7_listener.proofs.OpenedLemmas.{no_s7}

-- a PDU that the link was granted is at most the greatest one
abbrev IsBounded : LinkState → Type 0
IsBounded link = (pdu : ℕ) → link.granted ≡ Some pdu → pdu ≤ most_pdu

-- the link's state after a judgement has such a PDU
abbrev Keeps : Judgement → Type 0
Keeps (refuse refusal) = Unit {0}
Keeps (own messages link) = IsBounded link
Keeps (ask asking) = (reply : Said) → IsBounded (asking.link reply)

-- The refusals, each as a judgement that is always this one: outside of their crate they have no names.
abbrev unreadable : LinkState → Judgement
unreadable link = end_asked link 0 None

abbrev over_pdu : LinkState → Judgement
over_pdu link = negotiated link 0 (Err (record {}))

abbrev not_allowed : LinkState → Judgement
not_allowed link = insert link 0 0 0 None

abbrev unknown : LinkState → Judgement
unknown link = by_server_job link None []

keeps_if : (b : Bool) (x y : Judgement) → Keeps x → Keeps y → Keeps (cond b x y)
keeps_if true x y one other = one
keeps_if false x y one other = other

bounded_if : (b : Bool) (x y : LinkState) → IsBounded x → IsBounded y → IsBounded (cond b x y)
bounded_if true x y one other = one
bounded_if false x y one other = other

same_number : (a b : ℕ) → Some a ≡ Some b → a ≡ b
same_number a b is = cc (is)

module _ (link : LinkState) (bounded : IsBounded link) where
  grant_bounded : (b : Bool) (sequence : ℕ) (n : Negotiation) → n.pdu ≤ most_pdu
      → Keeps (negotiated link sequence (cond b (Err (record {})) (Ok n)))
  grant_bounded true sequence n le = tt
  grant_bounded false sequence n le = λ pdu is. subst (λ (x : ℕ). x ≤ most_pdu) (same_number n.pdu pdu is) le

  negotiation_bounded : (sequence : ℕ) (r : Result Negotiation BadParams) → Keeps (negotiation link sequence r)
  negotiation_bounded sequence (Err bad) = tt
  negotiation_bounded sequence (Ok asked) =
      grant_bounded (nat_lt asked.pdu least_pdu) sequence
      (record { calling = jobs_granted asked.calling; called = jobs_granted asked.called; pdu = min asked.pdu most_pdu })
      (min-le_right asked.pdu most_pdu)

  read_bounded : (pdu sequence : ℕ) (body : List ℕ) (r : Result (List Item) ItemFault) → Keeps (read link pdu sequence body r)
  read_bounded pdu sequence body (Err fault) = tt
  read_bounded pdu sequence body (Ok items) =
      let asked : Judgement = asks_plainly link sequence (Read items) in
      let fits : Judgement = cond (nat_lt pdu (answer_size items)) (over_pdu link) asked in
      keeps_if (nat_lt 0 (length body)) (unreadable link) fits tt
      (keeps_if (nat_lt pdu (answer_size items)) (over_pdu link) asked tt (λ reply. bounded))

  write_of_bounded : (pdu sequence : ℕ) (items : List Item) (body : List ℕ) (r : Result (List DataPlace) DataFault)
      → Keeps (write_of link pdu sequence items body r)
  write_of_bounded pdu sequence items body (Err fault) = tt
  write_of_bounded pdu sequence items body (Ok places) =
      keeps_if (nat_lt pdu (14 + length items)) (over_pdu link) (asks_plainly link sequence (Write items places body)) tt
      (λ reply. bounded)

  write_bounded : (pdu sequence : ℕ) (body : List ℕ) (r : Result (List Item) ItemFault) → Keeps (write link pdu sequence body r)
  write_bounded pdu sequence body (Err fault) = tt
  write_bounded pdu sequence body (Ok items) = write_of_bounded pdu sequence items body (data_places_of (length items) body)

  insert_bounded : (sequence kind number : ℕ) (image : Option (List ℕ)) → Keeps (insert link sequence kind number image)
  insert_bounded sequence kind number None = tt
  insert_bounded sequence kind number (Some image) =
      keeps_if (is_stored_kind kind && head_agrees image kind number)
      (asks_plainly link sequence (request.Insert kind number image no_room)) (not_allowed link) (λ reply. bounded) tt

  control_bounded : (sequence : ℕ) (c : Control) → Keeps (control_asked link sequence c)
  control_bounded sequence control.Start = λ reply. bounded
  control_bounded sequence control.ColdStart = λ reply. bounded
  control_bounded sequence control.Stop = λ reply. bounded
  control_bounded sequence control.Compress = λ reply. bounded
  control_bounded sequence control.CopyRam = λ reply. bounded
  control_bounded sequence (control.Insert kind number) = insert_bounded sequence kind number (finished link.download kind number)
  control_bounded sequence (control.Delete kind number) =
      keeps_if (is_stored_kind kind) (asks_plainly link sequence (request.Delete kind number)) (not_allowed link)
      (λ reply. bounded) tt

  control_in_bounded : (sequence : ℕ) (body : List ℕ) (r : Result Control BadControl) → Keeps (control_in link sequence body r)
  control_in_bounded sequence body (Err bad) = tt
  control_in_bounded sequence body (Ok c) =
      keeps_if (nat_lt 0 (length body)) (unreadable link) (control_asked link sequence c) tt (control_bounded sequence c)

  with_upload_bounded : (reply : Said) → IsBounded (with_upload link reply)
  with_upload_bounded reply =
      let id = next_octet link.upload_id in
      bounded_if (reply.error == 0) (record link { upload_id = id; upload = Some (record { id = id; left = Some reply.body }) })
      link bounded bounded

  upload_started_bounded : (sequence : ℕ) (name : Option BlockName) → Keeps (upload_started link sequence name)
  upload_started_bounded sequence None = tt
  upload_started_bounded sequence (Some name) = with_upload_bounded

  upload_sliced_bounded : (pdu sequence id : ℕ) (left : Option (List ℕ)) → Keeps (upload_sliced link pdu sequence id left)
  upload_sliced_bounded pdu sequence id None = tt
  upload_sliced_bounded pdu sequence id (Some octets) = bounded

  slice_bounded : (pdu sequence : ℕ) (id : Option ℕ) → Keeps (slice_asked link pdu sequence id)
  slice_bounded pdu sequence None = tt
  slice_bounded pdu sequence (Some id) = upload_sliced_bounded pdu sequence id (left_in link.upload id)

  end_bounded : (sequence : ℕ) (id : Option ℕ) → Keeps (end_asked link sequence id)
  end_bounded sequence None = tt
  end_bounded sequence (Some id) =
      keeps_if (is_held link.upload id)
      (own (answer_octets sequence (end_function ∷ []) [] ∷ []) (record link { upload = None })) (unreadable link) bounded tt

  download_bounded : (sequence : ℕ) (a : Option Announced) → Keeps (download_started link sequence a)
  download_bounded sequence None = tt
  download_bounded sequence (Some a) =
      keeps_if (is_stored_kind a.name.kind && nat_le 36 a.size && nat_le a.size 65536)
      (download_begun link sequence a.name a.size) (not_allowed link) bounded tt

  transfer_bounded : (pdu code sequence : ℕ) (params : List ℕ) → Keeps (transfer link pdu code sequence params)
  transfer_bounded pdu code sequence params =
      let started : Judgement = download_started link sequence (download_announced params) in
      let uploaded : Judgement = upload_started link sequence (upload_asked params) in
      let sliced : Judgement = slice_asked link pdu sequence (id_in slice_function params) in
      let ended : Judgement = end_asked link sequence (id_in end_function params) in
      let last : Judgement = cond (code == slice_function) sliced ended in
      keeps_if (code == announce_function) started (cond (code == start_function) uploaded last)
      (download_bounded sequence (download_announced params))
      (keeps_if (code == start_function) uploaded last (upload_started_bounded sequence (upload_asked params))
      (keeps_if (code == slice_function) sliced ended (slice_bounded pdu sequence (id_in slice_function params))
      (end_bounded sequence (id_in end_function params))))

  empty_transfer_bounded : (pdu code sequence : ℕ) (params body : List ℕ)
      → Keeps (cond (nat_lt 0 (length body)) (unreadable link) (transfer link pdu code sequence params))
  empty_transfer_bounded pdu code sequence params body =
      keeps_if (nat_lt 0 (length body)) (unreadable link) (transfer link pdu code sequence params) tt
      (transfer_bounded pdu code sequence params)

  function_bounded : (pdu code sequence : ℕ) (params body : List ℕ) → Keeps (function link pdu code sequence params body)
  function_bounded pdu code sequence params body =
      let reads : Judgement = read link pdu sequence body (items_of params) in
      let writes : Judgement = write link pdu sequence body (items_of params) in
      let controls : Judgement = control_in link sequence body (control_of params) in
      let moved : Judgement = cond (nat_lt 0 (length body)) (unreadable link) (transfer link pdu code sequence params) in
      let last : Judgement = cond (is_transfer code) moved (unknown link) in
      let third : Judgement = cond (code == service_function || code == stop_function) controls last in
      keeps_if (code == read_function) reads (cond (code == write_function) writes third)
      (read_bounded pdu sequence body (items_of params))
      (keeps_if (code == write_function) writes third (write_bounded pdu sequence body (items_of params))
      (keeps_if (code == service_function || code == stop_function) controls last (control_in_bounded sequence body (control_of params))
      (keeps_if (is_transfer code) moved (unknown link) (empty_transfer_bounded pdu code sequence params body) tt)))

  function_at_bounded : (pdu : Option ℕ) (code sequence : ℕ) (params body : List ℕ) → Keeps (function_at link pdu code sequence params body)
  function_at_bounded None code sequence params body = tt
  function_at_bounded (Some pdu) code sequence params body = function_bounded pdu code sequence params body

  job_bounded : (sequence : ℕ) (params body : List ℕ) → Keeps (job link sequence params body)
  job_bounded sequence [] body = function_at_bounded link.granted 0 sequence [] body
  job_bounded sequence (code ∷ params) body =
      keeps_if (code == 0xF0) (negotiation link sequence (negotiation_of (code ∷ params)))
      (function_at link link.granted code sequence (code ∷ params) body)
      (negotiation_bounded sequence (negotiation_of (code ∷ params)))
      (function_at_bounded link.granted code sequence (code ∷ params) body)

  further_of_bounded : (pdu sequence : ℕ) (params : UserParams) (held : Option Sliced) → Keeps (further_of link pdu sequence params held)
  further_of_bounded pdu sequence params None = tt
  further_of_bounded pdu sequence params (Some held) =
      keeps_if (is_slice_of params held)
      (own (slice_octets sequence params.group params.sub params.sequence pdu held.rest ∷ [])
      (record link { sliced = slices_left params.group params.sub params.sequence pdu held.rest }))
      (unreadable link) bounded tt

  further_bounded : (pdu sequence : ℕ) (params : UserParams) (body : List ℕ) → Keeps (further link pdu sequence params body)
  further_bounded pdu sequence params body =
      keeps_if (bytes_eq body no_data) (further_of link pdu sequence params link.sliced) (unreadable link)
      (further_of_bounded pdu sequence params link.sliced) tt

  list_bounded : (pdu sequence : ℕ) (body : List ℕ) → Keeps (list_read link pdu sequence body)
  list_bounded pdu sequence body =
      keeps_if (names_list body)
      (asks_user link pdu sequence 0x44 0x01 false (λ (moment : ℕ). request.Szl (number_at body 4) (number_at body 6)))
      (unreadable link) (λ reply. bounded) tt

  lists_bounded : (pdu sequence : ℕ) (params : UserParams) (body : List ℕ) → Keeps (lists link pdu sequence params body)
  lists_bounded pdu sequence params body =
      let more : Judgement = further link pdu sequence params body in
      let first : Judgement = list_read link pdu sequence body in
      keeps_if (params.sub == 0x01) (cond params.answer more first) (unknown link)
      (keeps_if params.answer more first (further_bounded pdu sequence params body) (list_bounded pdu sequence body)) tt

  set_to_bounded : (pdu sequence : ℕ) (value : Option ℕ) → Keeps (clock_set_to link pdu sequence value)
  set_to_bounded pdu sequence None = tt
  set_to_bounded pdu sequence (Some value) = λ reply. bounded

  clock_set_bounded : (pdu sequence : ℕ) (body : List ℕ) → Keeps (clock_set link pdu sequence body)
  clock_set_bounded pdu sequence body =
      keeps_if (names_moment body) (clock_set_to link pdu sequence (moment_in (drop 4 body))) (unreadable link)
      (set_to_bounded pdu sequence (moment_in (drop 4 body))) tt

  clock_read_bounded : (pdu sequence : ℕ) → Keeps (clock_read link pdu sequence)
  clock_read_bounded pdu sequence = λ reply. bounded

  clock_bounded : (pdu sequence : ℕ) (params : UserParams) (body : List ℕ) → Keeps (clock link pdu sequence params body)
  clock_bounded pdu sequence params body =
      let more : Judgement = further link pdu sequence params body in
      let told : Judgement = clock_read link pdu sequence in
      let set_at : Judgement = clock_set link pdu sequence body in
      keeps_if (params.sub == 0x01) (cond params.answer more told)
      (cond (params.sub == 0x02) (cond params.answer more set_at) (unknown link))
      (keeps_if params.answer more told (further_bounded pdu sequence params body) (clock_read_bounded pdu sequence))
      (keeps_if (params.sub == 0x02) (cond params.answer more set_at) (unknown link)
      (keeps_if params.answer more set_at (further_bounded pdu sequence params body) (clock_set_bounded pdu sequence body)) tt)

  password_set_bounded : (sequence : ℕ) (body : List ℕ) → Keeps (password_set link sequence body)
  password_set_bounded sequence body =
      let error = set_error link.guard (decoded (drop 4 body)) in
      keeps_if (is_password body) (security_answer link sequence 0x01 error (link.right || (error == 0))) (unreadable link) bounded tt

  password_cleared_bounded : (sequence : ℕ) (body : List ℕ) → Keeps (password_cleared link sequence body)
  password_cleared_bounded sequence body =
      let error = clear_error link.guard link.right in
      keeps_if (bytes_eq body no_data) (security_answer link sequence 0x02 error (link.right && not (error == 0))) (unreadable link)
      bounded tt

  security_bounded : (sequence : ℕ) (params : UserParams) (body : List ℕ) → Keeps (security link sequence params body)
  security_bounded sequence params body =
      let put : Judgement = password_set link sequence body in
      let cleared : Judgement = password_cleared link sequence body in
      keeps_if (params.sub == 0x01) (cond params.answer (unreadable link) put)
      (cond (params.sub == 0x02) (cond params.answer (unreadable link) cleared) (unknown link))
      (keeps_if params.answer (unreadable link) put tt (password_set_bounded sequence body))
      (keeps_if (params.sub == 0x02) (cond params.answer (unreadable link) cleared) (unknown link)
      (keeps_if params.answer (unreadable link) cleared tt (password_cleared_bounded sequence body)) tt)

  kind_listed_bounded : (pdu sequence : ℕ) (body : List ℕ) → Keeps (kind_listed link pdu sequence body)
  kind_listed_bounded pdu sequence body =
      keeps_if (names_kind body)
      (asks_user link pdu sequence 0x43 0x02 false (λ (moment : ℕ). request.ListOf (slice_index body 5)))
      (unreadable link) (λ reply. bounded) tt

  informed_bounded : (pdu sequence : ℕ) (name : Option BlockName) → Keeps (informed link pdu sequence name)
  informed_bounded pdu sequence None = tt
  informed_bounded pdu sequence (Some name) = λ reply. bounded

  blocks_asked_bounded : (pdu sequence subfunction : ℕ) (body : List ℕ) → Keeps (blocks_asked link pdu sequence subfunction body)
  blocks_asked_bounded pdu sequence subfunction body =
      let counted : Judgement = asks_user link pdu sequence 0x43 0x01 false (λ (moment : ℕ). request.ListAll) in
      let listed : Judgement = kind_listed link pdu sequence body in
      let told : Judgement = informed link pdu sequence (block_told body) in
      keeps_if (subfunction == 0x01) counted (cond (subfunction == 0x02) listed told) (λ reply. bounded)
      (keeps_if (subfunction == 0x02) listed told (kind_listed_bounded pdu sequence body)
      (informed_bounded pdu sequence (block_told body)))

  blocks_bounded : (pdu sequence : ℕ) (params : UserParams) (body : List ℕ) → Keeps (blocks link pdu sequence params body)
  blocks_bounded pdu sequence params body =
      let more : Judgement = further link pdu sequence params body in
      let first : Judgement = blocks_asked link pdu sequence params.sub body in
      keeps_if (params.sub == 0x01 || params.sub == 0x02 || params.sub == 0x03) (cond params.answer more first) (unknown link)
      (keeps_if params.answer more first (further_bounded pdu sequence params body)
      (blocks_asked_bounded pdu sequence params.sub body))
      tt

  group_bounded : (pdu sequence : ℕ) (body : List ℕ) (r : Result UserParams BadParams) → Keeps (group link pdu sequence body r)
  group_bounded pdu sequence body (Err bad) = tt
  group_bounded pdu sequence body (Ok params) =
      let of_blocks : Judgement = blocks link pdu sequence params body in
      let of_lists : Judgement = lists link pdu sequence params body in
      let of_security : Judgement = security link sequence params body in
      let of_clock : Judgement = clock link pdu sequence params body in
      let last : Judgement = cond (params.group == 0x47) of_clock (unknown link) in
      let third : Judgement = cond (params.group == 0x45) of_security last in
      keeps_if (params.group == 0x43) of_blocks (cond (params.group == 0x44) of_lists third)
      (blocks_bounded pdu sequence params body)
      (keeps_if (params.group == 0x44) of_lists third (lists_bounded pdu sequence params body)
      (keeps_if (params.group == 0x45) of_security last (security_bounded sequence params body)
      (keeps_if (params.group == 0x47) of_clock (unknown link) (clock_bounded pdu sequence params body) tt)))

  user_bounded : (pdu : Option ℕ) (sequence : ℕ) (params body : List ℕ) → Keeps (user_at link pdu sequence params body)
  user_bounded None sequence params body = tt
  user_bounded (Some pdu) sequence [] body = tt
  user_bounded (Some pdu) sequence (x ∷ params) body = group_bounded pdu sequence body (user_params_of (x ∷ params))

  kinds_bounded : (kind : Kind) (sequence : ℕ) (params body : List ℕ) → Keeps (kinds link kind sequence params body)
  kinds_bounded Job sequence params body = job_bounded sequence params body
  kinds_bounded User sequence params body = user_bounded link.granted sequence params body
  kinds_bounded Ack sequence params body = tt
  kinds_bounded AckData sequence params body = tt

  headed_bounded : (m : List ℕ) (r : Result Header HeaderFault) → Keeps (headed link m r)
  headed_bounded m (Err fault) = tt
  headed_bounded m (Ok h) =
      keeps_if (nat_lt (pdu_limit link.granted) (length m)) (over_pdu link)
      (kinds link h.kind (sequence_of m) (params_of m h) (body_of m h)) tt
      (kinds_bounded h.kind (sequence_of m) (params_of m h) (body_of m h))

  piece_left_bounded : (name : BlockName) (p : Progress) → IsBounded (piece_left link name p)
  piece_left_bounded name idle = bounded
  piece_left_bounded name (awaiting len octets) = bounded
  piece_left_bounded name (whole octets) = bounded

  piece_bounded : (download : Option Download) (piece : Option Piece) → Keeps (piece_came link download piece)
  piece_bounded None piece = bounded
  piece_bounded (Some d) None = bounded
  piece_bounded (Some d) (Some piece) = piece_left_bounded d.name (with_piece 65536 d.progress piece)

  closed_bounded : (params body : List ℕ) → Keeps (closed link params body)
  closed_bounded params body =
      keeps_if (bytes_eq params (close_function ∷ []) && length body == 0) (own [] (record link { server_job = None }))
      (dropped link) bounded bounded

  job_answered_bounded : (code : ℕ) (params body : List ℕ) → Keeps (job_answered link code params body)
  job_answered_bounded code params body =
      let piece : Option Piece = piece_in (pdu_limit link.granted) params body in
      keeps_if (code == piece_function) (piece_came link link.download piece) (closed link params body)
      (piece_bounded link.download piece) (closed_bounded params body)

  answer_bounded : (code : ℕ) (m : List ℕ) (r : Result Header HeaderFault) → Keeps (answer_came link code m r)
  answer_bounded code m (Err fault) = bounded
  answer_bounded code m (Ok h) =
      keeps_if (slice_index m 1 == 0x03 && h.error == 0) (job_answered link code (params_of m h) (body_of m h)) (dropped link)
      (job_answered_bounded code (params_of m h) (body_of m h)) bounded

  server_job_bounded : (asked : Option ServerJob) (m : List ℕ) → Keeps (by_server_job link asked m)
  server_job_bounded None m = tt
  server_job_bounded (Some asked) m = answer_bounded asked.function m (header_of m)

  no_request_bounded : (m : List ℕ) → Keeps (no_request link m)
  no_request_bounded m =
      keeps_if (answers_job link.server_job m) (by_server_job link link.server_job m) (unknown link)
      (server_job_bounded link.server_job m) tt

  judge_bounded : (m : List ℕ) → Keeps (judge link m)
  unfolding judge
  judge_bounded m =
      keeps_if (is_request m) (headed link m (header_of m)) (no_request link m) (headed_bounded m (header_of m)) (no_request_bounded m)

  -- ---- events

  clock_made : (timed : Bool) (size sequence : ℕ) (asking : Asking) (js : List Verdict)
      → IsBounded (by_clock timed size link sequence asking js).link
  clock_made true size sequence asking js = bounded
  clock_made false size sequence asking js = bounded

  asks_made : (size sequence : ℕ) (asking : Asking) (js : List Verdict) → ((reply : Said) → IsBounded (asking.link reply))
      → IsBounded (asks size link sequence asking js).link
  asks_made size sequence asking [] keeps = bounded
  asks_made size sequence asking (Entered reply moment ∷ js) keeps = keeps reply
  asks_made size sequence asking (Full ∷ js) keeps = bounded
  asks_made size sequence asking (ClockFailed ∷ js) keeps = clock_made asking.is_timed size sequence asking js
  asks_made size sequence asking (NoMemory ∷ js) keeps = bounded

  judged_made : (size sequence : ℕ) (js : List Verdict) (j : Judgement) → Keeps j → IsBounded (by_judgement size link sequence js j).link
  judged_made size sequence js (refuse refusal) keeps = bounded
  judged_made size sequence js (own messages later) keeps = keeps
  judged_made size sequence js (ask asking) keeps = asks_made size sequence asking js keeps

kind_made : (b : Bool) (m other : Made) → IsBounded m.link → IsBounded other.link → IsBounded (cond b m other).link
kind_made true m other is other_is = is
kind_made false m other is other_is = other_is

event_made : (size : Option ℕ) (link : LinkState) (e : Event) (js : List Verdict) → IsBounded link → IsBounded (made size link e js).link
unfolding made
event_made size link (opened c) js bounded = bounded
event_made None link (message m at) js bounded = bounded
event_made (Some size) link (message m at) js bounded =
    kind_made (is_s7 m) (by_judgement size link (sequence_of m) js (judge link m)) (no_s7 size link at js)
    (judged_made link bounded size (sequence_of m) js (judge link m) (judge_bounded link bounded m)) bounded

past_if : (s : Standing) (q p : Past) → IsBounded q.link → IsBounded p.link → IsBounded (if_lives s q p).link
past_if lives q p later is = later
past_if stops q p later is = is
past_if unjudged q p later is = is
past_if (closes end) q p later is = is

run_bounded : (p : Past) (events : List Event) → IsBounded p.link → IsBounded (run p events).link
run_bounded p [] bounded = bounded
run_bounded p (e ∷ events) bounded =
    run_bounded (next p e) events
    (past_if p.standing (with_made p (made p.size p.link e p.verdicts)) p (event_made p.size p.link e p.verdicts bounded) bounded)

none_some : (granted : Option ℕ) (pdu : ℕ) → granted ≡ None → granted ≡ Some pdu → ⊥
none_some granted pdu none some = cc (none, some)

pub grants_are_bounded : GrantsAreBounded
grants_are_bounded first js events pdu fresh is =
    run_bounded (start first js) events (λ n granted. absurd (none_some first.granted n fresh granted)) pdu is
