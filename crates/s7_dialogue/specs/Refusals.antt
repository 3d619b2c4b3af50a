-- The error numbers with which refusals end a job (Snap7 1.4 sources, s7_micro_client.cpp:
-- TSnap7MicroClient::CpuError).
use Rattle.std.specs.Prelude.{ℕ, ◌==◌, ◌||◌, [], ◌∷◌, Option, None, Some, if◌then◌else◌}
use Rattle.s7_dialogue.specs.Codes.{over_pdu, address_out_of_range, invalid_transport, size_mismatch, not_available, invalid_value, no_such_function, already_runs, already_stopped, password_needed, wrong_password, no_password, refused_otherwise}
use Rattle.s7_clock.specs.declared.control.Control.{Control}
use Rattle.s7_clock.specs.declared.control.Control.TheVariants as control
use Rattle.s7_dialogue.specs.Answer.{Answer, grants, tells, notes, stands, brings, uploads, slices, uploaded, announced, calls, refuses}

-- the error number of the error word of a header
abbrev pub number_of_error : ℕ → ℕ
number_of_error error =
    if error == 0x8500 then over_pdu
    else (if error == 0xD209 then not_available
    else (if error == 0xDC01 then invalid_value
    else (if error == 0x8104 then no_such_function
    else (if error == 0xD241 then password_needed
    else (if error == 0xD602 then wrong_password
    else (if error == 0xD604 || error == 0xD605 then no_password
    else refused_otherwise))))))

-- the error number of the return code of an item
abbrev pub number_of_code : ℕ → ℕ
number_of_code code =
    if code == 0x05 then address_out_of_range
    else (if code == 0x06 then invalid_transport
    else (if code == 0x07 then size_mismatch
    else (if code == 0x0A then not_available
    else refused_otherwise)))

-- the error number of a return code; `None` for FF
abbrev pub code_refusal : ℕ → Option ℕ
code_refusal code = if code == 0xFF then None else Some (number_of_code code)

-- the error number of the status that answers a control, which isn't 00; the statuses are this profile's own
abbrev pub number_of_status : Control → ℕ → ℕ
number_of_status control.Start status = if status == 0x02 then already_runs else refused_otherwise
number_of_status control.ColdStart status = if status == 0x02 then already_runs else refused_otherwise
number_of_status control.Stop status = if status == 0x07 then already_stopped else refused_otherwise
number_of_status control.Compress status = refused_otherwise
number_of_status control.CopyRam status = refused_otherwise
number_of_status (control.Insert kind number) status = refused_otherwise
number_of_status (control.Delete kind number) status = refused_otherwise

-- the refusal of a whole telegram, whatever the codes of its items are
abbrev pub telegram_refusal : Answer → Option ℕ
telegram_refusal (refuses error) = Some (number_of_error error)
telegram_refusal (grants granted) = None
telegram_refusal (tells items) = None
telegram_refusal (notes codes) = None
telegram_refusal (stands status) = None
telegram_refusal (brings octet more octets) = None
telegram_refusal (uploads id size) = None
telegram_refusal (slices more octets) = None
telegram_refusal uploaded = None
telegram_refusal announced = None
telegram_refusal (calls sequence) = None

-- the refusal of a telegram or of its one item
abbrev pub part_refusal : Answer → Option ℕ
part_refusal (refuses error) = Some (number_of_error error)
part_refusal (tells (item ∷ [])) = code_refusal item.code
part_refusal (tells []) = None
part_refusal (tells (item ∷ next ∷ items)) = None
part_refusal (notes (code ∷ [])) = code_refusal code
part_refusal (notes []) = None
part_refusal (notes (code ∷ next ∷ codes)) = None
part_refusal (grants granted) = None
part_refusal (stands status) = None
part_refusal (brings octet more octets) = None
part_refusal (uploads id size) = None
part_refusal (slices more octets) = None
part_refusal uploaded = None
part_refusal announced = None
part_refusal (calls sequence) = None

-- the refusal of a control, by an error word or by its status
abbrev pub control_refusal : Control → Answer → Option ℕ
control_refusal control (refuses error) = Some (number_of_error error)
control_refusal control (stands status) =
    if status == 0x00 then None else Some (number_of_status control status)
control_refusal control (grants granted) = None
control_refusal control (tells items) = None
control_refusal control (notes codes) = None
control_refusal control (brings octet more octets) = None
control_refusal control (uploads id size) = None
control_refusal control (slices more octets) = None
control_refusal control uploaded = None
control_refusal control announced = None
control_refusal control (calls sequence) = None

-- the refusal of a telegram of a download; its insertion is answered by a status
abbrev pub download_refusal : Answer → Option ℕ
download_refusal (refuses error) = Some (number_of_error error)
download_refusal (stands status) = if status == 0x00 then None else Some refused_otherwise
download_refusal (grants granted) = None
download_refusal (tells items) = None
download_refusal (notes codes) = None
download_refusal (brings octet more octets) = None
download_refusal (uploads id size) = None
download_refusal (slices more octets) = None
download_refusal uploaded = None
download_refusal announced = None
download_refusal (calls sequence) = None
