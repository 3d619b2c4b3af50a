-- A far result has as many codes and octets as the items that travelled want.
use Rattle.std.proofs.Common.{◌≡◌, ℕ, ◌+◌, ◌≤◌, Bool, true, false, cond, eqb, Some, List, [], ◌∷◌, length, map, take, refl, ap, sym, ◌∙◌, subst, arith, length-take}
use Rattle.std.specs.List.{list_any}
use Rattle.s7_outer.specs.Shown.{Shown}
use Rattle.s7_dialogue.specs.declared.config.Config.{Config}
use Rattle.s7_dialogue.specs.declared.job.Job.TheVariants.{ReadMany, WriteMany}
use Rattle.s7_dialogue.specs.declared.job.JobResult.{JobResult}
use Rattle.s7_client.specs.Form.{octets_read, count_read}
use Rattle.s7_client.specs.Runs.{Between, JobRun}
use Rattle.s7_item.specs.DataItem.{is_good}
use Rattle.s7_item.specs.declared.item.Item.{Item}
use Rattle.s7_item.specs.declared.places.DataPlace.{DataPlace}
use Rattle.s7_plant.specs.declared.request.Request.{Request}
use Rattle.s7_plant.specs.declared.request.Request.TheVariants.{Read, Write}
use Rattle.s7_plant.specs.declared.request.Request.TheVariants as other
use Rattle.s7_plant.specs.Requests.{IsReady}
use Rattle.s7_relay.specs.Acts.{GetsBy, GetsTo, Passes}
use Rattle.s7_relay.specs.Far.{FarModel, FarServer}
use Rattle.s7_relay.specs.Replies.{AreEnough, AreNear, AreOctetsFor, GivesEnough, HasEnough, codes_in, codes_wanted, octets_wanted}
use Rattle.s7_relay.specs.Travel.{far_items, far_octets, request_codes}
use Rattle.s7_relay.specs.Windows.{near_code, put_codes}
use Rattle.s7_relay.specs.declared.passage.Passage.{Passage}
use Rattle.s7_relay.specs.declared.passage.Passage.TheVariants as passage
use Rattle.s7_relay.specs.declared.windows.Window.{Window}
use Rattle.s7_relay.proofs.TravelLemmas.{length-far, octets_far, none_wanted}

-- ---- there is a near code for each item

pub length-put : (ws : List Window) (items : List Item) (places : List DataPlace) (octets : List ℕ)
    → length places ≡ length items → length (put_codes ws items places octets) ≡ length items
length-put ws [] places octets h = refl
length-put ws (item ∷ items) [] octets h = absurd (omega (arith, h))
length-put ws (item ∷ items) (place ∷ places) octets h =
    let rest = length-put ws items places octets (omega (arith, h)) in omega (arith, rest)

pub length-codes : (ws : List Window) (items : List Item) → length (map (near_code ws) items) ≡ length items
length-codes ws [] = refl
length-codes ws (item ∷ items) = let rest = length-codes ws items in omega (arith, rest)

-- ---- a result

-- at most twenty codes
few_codes : (told : JobResult) (codes : List ℕ) → told.count ≤ length told.codes → take told.count told.codes ≡ codes
    → length codes ≤ 20 → told.count ≤ 20
few_codes told codes within is few =
    let same = ap length is in omega (arith, length-take told.count told.codes, same, within, few)

-- of a read of these far items
read_enough : (ws : List Window) (items : List Item) (near : List ℕ) (config : Config) (old new : Between)
    (link link' : Shown) (told : JobResult) → length near ≡ length items
    → JobRun config old (ReadMany (far_items ws items near)) link link' told new
    → HasEnough (Read items) near told
read_enough ws items near config old new link link' told same run = record {
  few = λ good. few_codes told _ run.result.few run.result.codes (run.form.0 (sym run.result.code ∙ good)).0;
  good = λ good.
      let form = run.form.0 (sym run.result.code ∙ good) in
      let codes : length (codes_in told) ≡ codes_wanted near =
      ap length run.result.codes ∙ form.1 ∙ length-far ws items near same in
      record {
        as_many = codes;
        as_long = ap length run.result.octets ∙ form.2
            ∙ ap (octets_read (far_items ws items near)) (sym run.result.codes)
            ∙ octets_far ws items near (codes_in told) same codes;
      };
}

-- of a write of them
written_enough : (ws : List Window) (items : List Item) (places : List DataPlace) (octets near written : List ℕ)
    (config : Config) (old new : Between) (link link' : Shown) (told : JobResult) → length near ≡ length items
    → JobRun config old (WriteMany (far_items ws items near) written) link link' told new
    → HasEnough (Write items places octets) near told
written_enough ws items places octets near written config old new link link' told same run = record {
  few = λ good. few_codes told _ run.result.few run.result.codes (run.form.0 (sym run.result.code ∙ good)).0;
  good = λ good.
      let form = run.form.0 (sym run.result.code ∙ good) in
      record {
        as_many = ap length run.result.codes ∙ form.1 ∙ length-far ws items near same;
        as_long = tt;
      };
}

-- ---- how far a request got

read_gets : {M : Type 0} (shows : M → Shown) (server : FarServer) (ws : List Window) (items : List Item) (near : List ℕ)
    (old new : FarModel M) (p : Passage) → length near ≡ length items
    → GetsTo shows server (ReadMany (far_items ws items near)) old new p → GivesEnough (Read items) near p
read_gets shows server ws items near old new passage.Near same h = absurd h
read_gets shows server ws items near old new passage.Undialled same h = tt
read_gets shows server ws items near old new (passage.Unconnected connect) same h = tt
read_gets shows server ws items near old new (passage.Unpacked connect) same h = tt
read_gets shows server ws items near old new (passage.Asked connect told) same h =
    let does = h.3 in
    read_enough ws items near server.config h.0.client new.client does.link does.after told same does.run

written_gets : {M : Type 0} (shows : M → Shown) (server : FarServer) (ws : List Window) (items : List Item)
    (places : List DataPlace) (octets near written : List ℕ) (old new : FarModel M) (p : Passage)
    → length near ≡ length items
    → GetsTo shows server (WriteMany (far_items ws items near) written) old new p
    → GivesEnough (Write items places octets) near p
written_gets shows server ws items places octets near written old new passage.Near same h = absurd h
written_gets shows server ws items places octets near written old new passage.Undialled same h = tt
written_gets shows server ws items places octets near written old new (passage.Unconnected connect) same h = tt
written_gets shows server ws items places octets near written old new (passage.Unpacked connect) same h = tt
written_gets shows server ws items places octets near written old new (passage.Asked connect told) same h =
    let does = h.3 in
    written_enough ws items places octets near written server.config h.0.client new.client does.link does.after told same
    does.run

-- nothing travelled
stays_enough : (request : Request) (near : List ℕ) (p : Passage) → p ≡ passage.Near → AreEnough request near [] []
    → GivesEnough request near p
stays_enough request near p is told = subst (GivesEnough request near) (sym is) told

none_enough : (request : Request) (near : List ℕ) → list_any is_good near ≡ false → AreOctetsFor request near [] 0
    → AreEnough request near [] []
none_enough request near none octets = record { as_many = sym (none_wanted near none); as_long = octets }

-- there is a near code for each item
pub are_near : (ws : List Window) (request : Request) → IsReady request → AreNear request (request_codes ws request)
are_near ws (Read items) ready = length-codes ws items
are_near ws (Write items places octets) ready = length-put ws items places octets ready.0
are_near ws (other.Szl id index) ready = tt
are_near ws (other.ClockRead moment) ready = tt
are_near ws (other.ClockSet moment value) ready = tt
are_near ws (other.Start cold) ready = tt
are_near ws other.Stop ready = tt
are_near ws other.Compress ready = tt
are_near ws other.CopyRam ready = tt
are_near ws other.ListAll ready = tt
are_near ws (other.ListOf kind) ready = tt
are_near ws (other.Info kind number) ready = tt
are_near ws (other.StartUpload kind number) ready = tt
are_near ws (other.Insert kind number image spare) ready = tt
are_near ws (other.Delete kind number) ready = tt

none_read : (items : List Item) (near : List ℕ) → codes_wanted near ≡ 0 → octets_wanted items near [] ≡ 0
none_read [] near h = refl
none_read (item ∷ items) [] h = refl
none_read (item ∷ items) (code ∷ near) h = by (eqb code 255) h (none_read items near)
  where
    by : (b : Bool) → cond b 1 0 + codes_wanted near ≡ 0 → (codes_wanted near ≡ 0 → octets_wanted items near [] ≡ 0)
        → cond b (count_read item 0) 0 + octets_wanted items near (cond b [] []) ≡ 0
    by true h rest = absurd (omega (arith, h))
    by false h rest = let left = rest (omega (arith, h)) in omega (arith, left)

gets_read : {M : Type 0} (shows : M → Shown) (server : FarServer) (ws : List Window) (items : List Item) (near : List ℕ)
    (old new : FarModel M) (p : Passage) (b : Bool) → length near ≡ length items → list_any is_good near ≡ b
    → GetsBy shows server b (Some (ReadMany (far_items ws items near))) old new p → GivesEnough (Read items) near p
gets_read shows server ws items near old new p false same is h =
    stays_enough (Read items) near p h.0
    (none_enough (Read items) near is (sym (none_read items near (none_wanted near is))))
gets_read shows server ws items near old new p true same is h = read_gets shows server ws items near old new p same h

gets_written : {M : Type 0} (shows : M → Shown) (server : FarServer) (ws : List Window) (items : List Item)
    (places : List DataPlace) (octets near written : List ℕ) (old new : FarModel M) (p : Passage) (b : Bool)
    → length near ≡ length items → list_any is_good near ≡ b
    → GetsBy shows server b (Some (WriteMany (far_items ws items near) written)) old new p
    → GivesEnough (Write items places octets) near p
gets_written shows server ws items places octets near written old new p false same is h =
    stays_enough (Write items places octets) near p h.0 (none_enough (Write items places octets) near is tt)
gets_written shows server ws items places octets near written old new p true same is h =
    written_gets shows server ws items places octets near written old new p same h

-- wherever a request got, its reply has what it needs
pub passes_enough : {M : Type 0} (shows : M → Shown) (server : FarServer) (ws : List Window) (request : Request)
    (old new : FarModel M) (p : Passage) → IsReady request → Passes shows server ws request old new p
    → GivesEnough request (request_codes ws request) p
passes_enough shows server ws (Read items) old new p ready h =
    gets_read shows server ws items (map (near_code ws) items) old new p _ (length-codes ws items) refl h
passes_enough shows server ws (Write items places octets) old new p ready h =
    let near = put_codes ws items places octets in
    gets_written shows server ws items places octets near (far_octets near places octets) old new p _
    (length-put ws items places octets ready.0) refl h
passes_enough shows server ws (other.Szl id index) old new p ready h = stays_enough _ [] p h.0 (record { as_many = refl; as_long = tt })
passes_enough shows server ws (other.ClockRead moment) old new p ready h = stays_enough _ [] p h.0 (record { as_many = refl; as_long = tt })
passes_enough shows server ws (other.ClockSet moment value) old new p ready h = stays_enough _ [] p h.0 (record { as_many = refl; as_long = tt })
passes_enough shows server ws (other.Start cold) old new p ready h = stays_enough _ [] p h.0 (record { as_many = refl; as_long = tt })
passes_enough shows server ws other.Stop old new p ready h = stays_enough _ [] p h.0 (record { as_many = refl; as_long = tt })
passes_enough shows server ws other.Compress old new p ready h = stays_enough _ [] p h.0 (record { as_many = refl; as_long = tt })
passes_enough shows server ws other.CopyRam old new p ready h = stays_enough _ [] p h.0 (record { as_many = refl; as_long = tt })
passes_enough shows server ws other.ListAll old new p ready h = stays_enough _ [] p h.0 (record { as_many = refl; as_long = tt })
passes_enough shows server ws (other.ListOf kind) old new p ready h = stays_enough _ [] p h.0 (record { as_many = refl; as_long = tt })
passes_enough shows server ws (other.Info kind number) old new p ready h = stays_enough _ [] p h.0 (record { as_many = refl; as_long = tt })
passes_enough shows server ws (other.StartUpload kind number) old new p ready h = stays_enough _ [] p h.0 (record { as_many = refl; as_long = tt })
passes_enough shows server ws (other.Insert kind number image spare) old new p ready h = stays_enough _ [] p h.0 (record { as_many = refl; as_long = tt })
passes_enough shows server ws (other.Delete kind number) old new p ready h = stays_enough _ [] p h.0 (record { as_many = refl; as_long = tt })
