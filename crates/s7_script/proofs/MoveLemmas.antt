-- No line of a script connects or disconnects.
use Rattle.std.proofs.Common.{◌≡◌, ◌==◌, ℕ, Bool, true, false, cond, List, [], ◌∷◌, ◌++◌, length, Option, None, Some, Result, Ok, Err, IfOk, subst}
use Rattle.std.specs.Prelude.{IfSome, codes}
use Rattle.std.specs.List.{AllByRecursion, list_all}
use Rattle.std.specs.Str.{bytes_eq}
use Rattle.s7_item.specs.declared.item.Item.{Item}
use Rattle.s7_block.specs.declared.block.BlockName.{BlockName}
use Rattle.s7_dialogue.specs.declared.job.Job.{Job}
use Rattle.s7_dialogue.specs.declared.job.Job.TheVariants as job
use Rattle.s7_text.specs.Lines.{Text, lines, is_passed, next_line}
use Rattle.hex.specs.Hex.{decode_of}
use Rattle.hex.specs.declared.error.FromHexError.{FromHexError}
use Rattle.s7_text.specs.Fields.{number_of, field_of, rest_of}
use Rattle.s7_text.specs.Moments.{moment_named}
use Rattle.s7_script.specs.Script.{Written, parts, read_item, read_items, written_item, written_items, read_job, write_job, read_many_job, write_many_job, word_of, within, kind_named, list_of_job, block_named, info_job, upload_job, with_image, download_job, delete_job, db_get_job, octet_in, with_value, db_fill_job, two_octets_in, with_index, list_job, moment_job, set_clock_job, is_printable, password_job, plain_job, or_unknown, ended, job_named, ◌>>=◌}
use Rattle.s7_symbol.specs.Values.{octets_said}
use Rattle.s7_symbol.specs.declared.kind.TagKind.{TagKind}
use Rattle.s7_symbol.specs.declared.tag.Tag.{Tag}
use Rattle.s7_script.specs.Tagged.{Tagged, at_line, get_job, line_jobs, put_job, put_value, script_by, script_lines, tag_named, tagged_by, tagged_of, untagged, value_or_fault}
use Rattle.s7_script.specs.Laws.{KeepsLink}
use Rattle.s7_script.specs.declared.scripts.script_list.ScriptLine.{ScriptLine}
use Rattle.s7_script.specs.declared.scripts.script_fault.ScriptFault.{ScriptFault}
use Rattle.s7_script.specs.declared.scripts.script_fault.ScriptKind.{ScriptKind}
use Rattle.s7_script.specs.declared.scripts.script_fault.ScriptKind.TheVariants as kind

-- ---- the job of a line

-- a job that was read, of whatever was read before
made : {X : Type 0} (make : X → Job) (r : Result X ScriptKind) → ((x : X) → KeepsLink (make x)) → IfOk (r >>= (λ x. Ok (make x))) KeepsLink
made make (Ok x) each = each x
made make (Err e) each = tt

read_keeps : (rest : Option Text) → IfOk (read_job rest) KeepsLink
read_keeps None = tt
read_keeps (Some text) = made job.ReadArea (read_item text) (λ item. tt)

write_keeps : (rest : Option Text) → IfOk (write_job rest) KeepsLink
write_keeps None = tt
write_keeps (Some text) = made (λ (w : Written). job.WriteArea w.0 w.1) (written_item text) (λ w. tt)

read_many_keeps : (rest : Option Text) → IfOk (read_many_job rest) KeepsLink
read_many_keeps None = tt
read_many_keeps (Some text) = made job.ReadMany (read_items (parts text)) (λ items. tt)

write_many_keeps : (rest : Option Text) → IfOk (write_many_job rest) KeepsLink
write_many_keeps None = tt
write_many_keeps (Some text) = made (λ (w : List Item × List ℕ). job.WriteMany w.0 w.1) (written_items (parts text)) (λ w. tt)

either : {X E : Type 0} (P : X → Type 0) (t : Bool) (r s : Result X E) → IfOk r P → IfOk s P → IfOk (cond t r s) P
either P true r s p q = p
either P false r s p q = q

-- a job behind which there are no more fields
ended_keeps : (found : Job) (rest : Option Text) → KeepsLink found → IfOk (ended found rest) KeepsLink
ended_keeps found None keeps = keeps
ended_keeps found (Some rest) keeps = tt

-- a step before the job
after : {X : Type 0} (r : Result X ScriptKind) (f : X → Result Job ScriptKind) → ((x : X) → IfOk (f x) KeepsLink) → IfOk (r >>= f) KeepsLink
after (Ok x) f each = each x
after (Err e) f each = tt

list_of_keeps : (rest : Option Text) → IfOk (list_of_job rest) KeepsLink
list_of_keeps None = tt
list_of_keeps (Some text) =
    after (word_of (kind_named (field_of text))) (λ of. ended (job.ListOf of) (rest_of text))
    (λ of. ended_keeps (job.ListOf of) (rest_of text) tt)

info_keeps : (rest : Option Text) → IfOk (info_job rest) KeepsLink
info_keeps rest = made (λ (name : BlockName). job.Info name.kind name.number) (block_named rest) (λ name. tt)

upload_keeps : (rest : Option Text) → IfOk (upload_job rest) KeepsLink
upload_keeps rest = made (λ (name : BlockName). job.Upload name.kind name.number) (block_named rest) (λ name. tt)

image_keeps : (rest : Option Text) (r : Result (List ℕ) FromHexError) → IfOk (with_image rest r) KeepsLink
image_keeps rest (Ok image) = ended_keeps (job.Download image) rest tt
image_keeps rest (Err e) = tt

download_keeps : (rest : Option Text) → IfOk (download_job rest) KeepsLink
download_keeps None = tt
download_keeps (Some text) =
    either KeepsLink (length (field_of text) == 0) (Err kind.Digits)
    (with_image (rest_of text) (decode_of (field_of text))) tt (image_keeps (rest_of text) (decode_of (field_of text)))

delete_keeps : (rest : Option Text) → IfOk (delete_job rest) KeepsLink
delete_keeps rest = made (λ (name : BlockName). job.Delete name.kind name.number) (block_named rest) (λ name. tt)

get_keeps : (rest : Option Text) → IfOk (db_get_job rest) KeepsLink
get_keeps None = tt
get_keeps (Some text) =
    after (within 1 65535 (number_of (field_of text))) (λ number. ended (job.DbGet number) (rest_of text))
    (λ number. ended_keeps (job.DbGet number) (rest_of text) tt)

value_keeps : (number : ℕ) (rest : Option Text) → IfOk (with_value number rest) KeepsLink
value_keeps number None = tt
value_keeps number (Some text) =
    after (octet_in (decode_of (field_of text))) (λ value. ended (job.DbFill number value) (rest_of text))
    (λ value. ended_keeps (job.DbFill number value) (rest_of text) tt)

fill_keeps : (rest : Option Text) → IfOk (db_fill_job rest) KeepsLink
fill_keeps None = tt
fill_keeps (Some text) =
    after (within 1 65535 (number_of (field_of text))) (λ number. with_value number (rest_of text))
    (λ number. value_keeps number (rest_of text))

index_keeps : (id : ℕ) (rest : Option Text) → IfOk (with_index id rest) KeepsLink
index_keeps id None = tt
index_keeps id (Some text) =
    after (two_octets_in (decode_of (field_of text))) (λ index. ended (job.Szl id index) (rest_of text))
    (λ index. ended_keeps (job.Szl id index) (rest_of text) tt)

list_keeps : (rest : Option Text) → IfOk (list_job rest) KeepsLink
list_keeps None = tt
list_keeps (Some text) =
    after (two_octets_in (decode_of (field_of text))) (λ id. with_index id (rest_of text)) (λ id. index_keeps id (rest_of text))

moment_keeps : (o : Option ℕ) (rest : Option Text) → IfOk (moment_job o rest) KeepsLink
moment_keeps None rest = tt
moment_keeps (Some moment) rest = ended_keeps (job.ClockSet moment) rest tt

set_clock_keeps : (rest : Option Text) → IfOk (set_clock_job rest) KeepsLink
set_clock_keeps None = tt
set_clock_keeps (Some text) = moment_keeps (moment_named (field_of text)) (rest_of text)

password_keeps : (rest : Option Text) → IfOk (password_job rest) KeepsLink
password_keeps None = tt
password_keeps (Some text) =
    either KeepsLink (list_all is_printable (field_of text)) (ended (job.PasswordSet (field_of text)) (rest_of text)) (Err kind.Word)
    (ended_keeps (job.PasswordSet (field_of text)) (rest_of text) tt) tt

-- of the jobs without fields
known : (t : Bool) (found : Job) (o : Option Job) → KeepsLink found → IfSome o KeepsLink → IfSome (cond t (Some found) o) KeepsLink
known true found o p q = p
known false found o p q = q

plain_keeps : (name : Text) → IfSome (plain_job name) KeepsLink
plain_keeps name =
    known (bytes_eq name (codes "list")) job.List _ tt
    (known (bytes_eq name (codes "clock")) job.ClockRead _ tt
    (known (bytes_eq name (codes "start")) job.Start _ tt
    (known (bytes_eq name (codes "coldstart")) job.ColdStart _ tt
    (known (bytes_eq name (codes "stop")) job.Stop _ tt
    (known (bytes_eq name (codes "compress")) job.Compress _ tt
    (known (bytes_eq name (codes "copy")) job.CopyRam _ tt
    (known (bytes_eq name (codes "status")) job.Status _ tt
    (known (bytes_eq name (codes "clearpassword")) job.PasswordClear None tt tt))))))))

unknown_keeps : (o : Option Job) (rest : Option Text) → IfSome o KeepsLink → IfOk (or_unknown o rest) KeepsLink
unknown_keeps None rest keeps = tt
unknown_keeps (Some found) rest keeps = ended_keeps found rest keeps

named_keeps : (name : Text) (rest : Option Text) → IfOk (job_named name rest) KeepsLink
named_keeps name rest =
    either KeepsLink (bytes_eq name (codes "read")) (read_job rest) _ (read_keeps rest)
    (either KeepsLink (bytes_eq name (codes "write")) (write_job rest) _ (write_keeps rest)
    (either KeepsLink (bytes_eq name (codes "readmany")) (read_many_job rest) _ (read_many_keeps rest)
    (either KeepsLink (bytes_eq name (codes "writemany")) (write_many_job rest) _ (write_many_keeps rest)
    (either KeepsLink (bytes_eq name (codes "listof")) (list_of_job rest) _ (list_of_keeps rest)
    (either KeepsLink (bytes_eq name (codes "info")) (info_job rest) _ (info_keeps rest)
    (either KeepsLink (bytes_eq name (codes "upload")) (upload_job rest) _ (upload_keeps rest)
    (either KeepsLink (bytes_eq name (codes "download")) (download_job rest) _ (download_keeps rest)
    (either KeepsLink (bytes_eq name (codes "delete")) (delete_job rest) _ (delete_keeps rest)
    (either KeepsLink (bytes_eq name (codes "dbget")) (db_get_job rest) _ (get_keeps rest)
    (either KeepsLink (bytes_eq name (codes "dbfill")) (db_fill_job rest) _ (fill_keeps rest)
    (either KeepsLink (bytes_eq name (codes "szl")) (list_job rest) _ (list_keeps rest)
    (either KeepsLink (bytes_eq name (codes "setclock")) (set_clock_job rest) _ (set_clock_keeps rest)
    (either KeepsLink (bytes_eq name (codes "password")) (password_job rest) (or_unknown (plain_job name) rest) (password_keeps rest)
    (unknown_keeps (plain_job name) rest (plain_keeps name)))))))))))))))

-- ---- where tags have names

abbrev Keeps : Tagged → Type 0
Keeps named = KeepsLink named.0

untagged_keeps : (r : Result Job ScriptKind) → IfOk r KeepsLink → IfOk (untagged r) Keeps
untagged_keeps (Ok job) keeps = keeps
untagged_keeps (Err e) keeps = tt

tag_ended_keeps : (j : Job) (of : Option TagKind) (rest : Option Text) → KeepsLink j → IfOk (ended (j, of) rest) Keeps
tag_ended_keeps j of None keeps = keeps
tag_ended_keeps j of (Some text) keeps = tt

got_keeps : (r : Result Tag ScriptKind) (rest : Option Text)
    → IfOk (r >>= (λ (tag : Tag). ended (job.ReadArea tag.item, Some tag.kind) rest)) Keeps
got_keeps (Ok tag) rest = tag_ended_keeps (job.ReadArea tag.item) (Some tag.kind) rest tt
got_keeps (Err e) rest = tt

tag_get_keeps : (tags : List Tag) (rest : Option Text) → IfOk (get_job tags rest) Keeps
tag_get_keeps tags None = tt
tag_get_keeps tags (Some text) = got_keeps (tag_named (field_of text) tags) (rest_of text)

valued_keeps : (tag : Tag) (r : Result (List ℕ) ScriptKind) (rest : Option Text)
    → IfOk (r >>= (λ (octets : List ℕ). ended (job.WriteArea tag.item octets, Some tag.kind) rest)) Keeps
valued_keeps tag (Ok octets) rest = tag_ended_keeps (job.WriteArea tag.item octets) (Some tag.kind) rest tt
valued_keeps tag (Err e) rest = tt

put_value_keeps : (tag : Tag) (rest : Option Text) → IfOk (put_value tag rest) Keeps
put_value_keeps tag None = tt
put_value_keeps tag (Some text) = valued_keeps tag (value_or_fault (octets_said tag.kind (field_of text))) (rest_of text)

putting_keeps : (r : Result Tag ScriptKind) (rest : Option Text) → IfOk (r >>= (λ (tag : Tag). put_value tag rest)) Keeps
putting_keeps (Ok tag) rest = put_value_keeps tag rest
putting_keeps (Err e) rest = tt

tag_put_keeps : (tags : List Tag) (rest : Option Text) → IfOk (put_job tags rest) Keeps
tag_put_keeps tags None = tt
tag_put_keeps tags (Some text) = putting_keeps (tag_named (field_of text) tags) (rest_of text)

tagged_keeps : (tags : Option (List Tag)) (name : Text) (rest : Option Text) → IfOk (tagged_by tags name rest) Keeps
tagged_keeps None name rest = untagged_keeps (job_named name rest) (named_keeps name rest)
tagged_keeps (Some tags) name rest =
    either Keeps (bytes_eq name (codes "get")) (get_job tags rest) _ (tag_get_keeps tags rest)
    (either Keeps (bytes_eq name (codes "put")) (put_job tags rest) (untagged (job_named name rest)) (tag_put_keeps tags rest)
    (untagged_keeps (job_named name rest) (named_keeps name rest)))

-- ---- the lines

abbrev AllKeep : List ScriptLine → Type 0
AllKeep lines = AllByRecursion (λ (l : ScriptLine). KeepsLink l.job) lines

at_line_keeps : (line : ℕ) (r : Result Tagged ScriptKind) → IfOk r Keeps → IfOk (at_line line r) AllKeep
at_line_keeps line (Ok named) keeps = (keeps, tt)
at_line_keeps line (Err e) keeps = tt

line_keeps : (tags : Option (List Tag)) (line : ℕ) (text : Text) → IfOk (line_jobs tags line text) AllKeep
line_keeps tags line text =
    either AllKeep (is_passed text) (Ok []) (at_line line (tagged_of tags text)) tt
    (at_line_keeps line (tagged_of tags text) (tagged_keeps tags (field_of text) (rest_of text)))

both_keep : (xs ys : List ScriptLine) → AllKeep xs → AllKeep ys → AllKeep (xs ++ ys)
both_keep [] ys p q = q
both_keep (x ∷ xs) ys p q = (p.0, both_keep xs ys p.1 q)

joined_keep : (r s : Result (List ScriptLine) ScriptFault) → IfOk r AllKeep → IfOk s AllKeep → IfOk (r >>= (λ jobs. s >>= (λ more. Ok (jobs ++ more)))) AllKeep
joined_keep (Ok xs) (Ok ys) p q = both_keep xs ys p q
joined_keep (Ok xs) (Err e) p q = tt
joined_keep (Err e) s p q = tt

lines_keep : (tags : Option (List Tag)) (line : ℕ) (texts : List Text) → IfOk (script_lines tags line texts) AllKeep
unfolding script_lines
lines_keep tags line [] = tt
lines_keep tags line (text ∷ rest) =
    joined_keep (line_jobs tags line text) (script_lines tags (next_line line) rest) (line_keeps tags line text)
    (lines_keep tags (next_line line) rest)

pub scripts_keep : (tags : Option (List Tag)) (text : Text) (lines : List ScriptLine) → script_by tags text ≡ Ok lines → AllKeep lines
scripts_keep tags text found is = subst (λ r. IfOk r AllKeep) is (lines_keep tags 1 (lines text))
