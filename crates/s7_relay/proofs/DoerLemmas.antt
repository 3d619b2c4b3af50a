-- Laws of a doer that relays.
use Rattle.std.proofs.Common.{◌≡◌, ℕ, ◌+◌, List, [], ◌∷◌, ◌++◌, length, refl, ap, sym, ◌∙◌, arith}
use Rattle.std.proofs.lemmas.List.{append-nil}
use Rattle.s7_outer.specs.Held.{Held}
use Rattle.s7_outer.specs.Shown.{Shown}
use Rattle.s7_plant.specs.Replies.{said_of}
use Rattle.s7_plant.specs.Requests.{kept, kept_request, no_room}
use Rattle.s7_plant.specs.declared.reply.Reply.{Reply}
use Rattle.s7_plant.specs.declared.request.Ask.{Ask}
use Rattle.s7_plant.specs.declared.request.Request.{Request}
use Rattle.s7_plant.specs.declared.request.Request.TheVariants as asked
use Rattle.s7_session.specs.Entry.{Entry}
use Rattle.s7_relay.specs.Acts.{IsRelayed, Lead, Passes, lacks, relays}
use Rattle.s7_relay.specs.Doer.{DoerModel, GoesOn, entries_from, entries_of}
use Rattle.s7_relay.specs.DoerLaws.{by_counts, goes_on_by}
use Rattle.s7_relay.specs.Far.{FarModel, FarServer, Lacks}
use Rattle.s7_relay.specs.Replies.{reply_of}
use Rattle.s7_relay.specs.Travel.{far_job, request_codes, travels}
use Rattle.s7_relay.specs.declared.passage.Passage.{Passage}
use Rattle.s7_relay.specs.declared.passage.Passage.TheVariants as passage
use Rattle.s7_relay.specs.declared.passage.Relayed.{Relayed}
use Rattle.s7_relay.specs.declared.windows.Window.{Window}

-- ---- entries

abbrev entry_of : ℕ → Relayed → Entry
entry_of number r = record { number = number; ask = r.ask; reply = said_of r.reply }

entries-append : (number : ℕ) (rs : List Relayed) (r : Relayed)
    → entries_from number (rs ++ r ∷ []) ≡ entries_from number rs ++ entry_of (number + length rs) r ∷ []
entries-append number [] r = ap (λ n. entry_of n r ∷ []) (omega arith)
entries-append number (x ∷ rs) r =
    ap (λ es. entry_of number x ∷ es) (entries-append (number + 1) rs r
    ∙ ap (λ n. entries_from (number + 1) rs ++ entry_of n r ∷ []) (omega arith))

pub entries_grow : (rs : List Relayed) (r : Relayed) (number : ℕ) → number ≡ length rs
    → entries_of (rs ++ r ∷ []) ≡ entries_of rs ++ entry_of number r ∷ []
entries_grow rs r number is =
    entries-append 0 rs r ∙ ap (λ n. entries_of rs ++ entry_of n r ∷ []) (omega (arith, is))

-- ---- requests as they are kept

-- what holds of a request holds of it as it is kept, if it doesn't hang on the room that an insert brings
as_kept : (P : Request → Type 0)
    → ((kind number : ℕ) (image : List ℕ) (spare : Held) → P (asked.Insert kind number image spare) → P (asked.Insert kind number image no_room))
    → (request : Request) → P request → P (kept_request request)
as_kept P insert (asked.Read items) h = h
as_kept P insert (asked.Write items places octets) h = h
as_kept P insert (asked.Szl id index) h = h
as_kept P insert (asked.ClockRead moment) h = h
as_kept P insert (asked.ClockSet moment value) h = h
as_kept P insert (asked.Start cold) h = h
as_kept P insert asked.Stop h = h
as_kept P insert asked.Compress h = h
as_kept P insert asked.CopyRam h = h
as_kept P insert asked.ListAll h = h
as_kept P insert (asked.ListOf kind) h = h
as_kept P insert (asked.Info kind number) h = h
as_kept P insert (asked.StartUpload kind number) h = h
as_kept P insert (asked.Insert kind number image spare) h = insert kind number image spare h
as_kept P insert (asked.Delete kind number) h = h

-- the reply to an insert doesn't hang on its room
insert_reply : (kind number : ℕ) (image : List ℕ) (spare : Held) (near : List ℕ) (p : Passage)
    → reply_of (asked.Insert kind number image spare) near p ≡ reply_of (asked.Insert kind number image no_room) near p
insert_reply kind number image spare near passage.Near = refl
insert_reply kind number image spare near passage.Undialled = refl
insert_reply kind number image spare near (passage.Unconnected connect) = refl
insert_reply kind number image spare near (passage.Unpacked connect) = refl
insert_reply kind number image spare near (passage.Asked connect told) = refl

pub relayed_as_kept : {M : Type 0} (shows : M → Shown) (server : FarServer) (ws : List Window) (old new : FarModel M)
    (ask : Ask) (reply : Reply) (p : Passage) → Passes shows server ws ask.request old new p
    → said_of reply ≡ reply_of ask.request (request_codes ws ask.request) p
    → IsRelayed shows server ws old new (record { ask = kept ask; reply = reply; passage = p })
relayed_as_kept shows server ws old new ask reply p passes said = record {
  passes = as_kept (λ request. Passes shows server ws request old new p) (λ kind number image spare h. h) ask.request passes;
  said = as_kept (λ request. said_of reply ≡ reply_of request (request_codes ws request) p)
      (λ kind number image spare h. h ∙ insert_reply kind number image spare [] p) ask.request said;
  counted = by_counts shows server (travels ws ask.request) (far_job ws ask.request) old new p passes;
}

-- ---- how it goes on

pub goes_on_by_one : {M : Type 0} (shows : M → Shown) (old new : DoerModel M) (r : Relayed)
    → new.windows ≡ old.windows → new.server ≡ old.server → new.limit ≡ old.limit
    → IsRelayed shows old.server old.windows old.far new.far r → new.kept ≡ old.kept ++ r ∷ []
    → GoesOn shows old new
unfolding Lead
goes_on_by_one shows old new r windows server limit relayed grown =
    goes_on_by shows old new (relays r ∷ []) windows server limit (new.far, relayed, refl) grown

pub goes_on_lacking : {M : Type 0} (shows : M → Shown) (old new : DoerModel M)
    → new.windows ≡ old.windows → new.server ≡ old.server → new.limit ≡ old.limit
    → Lacks shows old.server old.far new.far → new.kept ≡ old.kept
    → GoesOn shows old new
unfolding Lead
goes_on_lacking shows old new windows server limit lacked same =
    goes_on_by shows old new (lacks ∷ []) windows server limit (new.far, lacked, refl) (same ∙ sym (append-nil old.kept))
