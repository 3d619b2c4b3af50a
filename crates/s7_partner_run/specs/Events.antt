-- The news of partners: a block that was sent, a block that came, and the end.
use Rattle.std.specs.Prelude.{ℕ, ◌+◌, Bool, true, false, if◌then◌else◌, List, [], ◌∷◌, ◌++◌, Option, None, Some}
use Rattle.std.specs.Prelude.{Result, Ok, Err}
use Rattle.s7_outer.specs.declared.memory.Memory.{Memory}
use Rattle.s7_partner.specs.declared.role.Role.{Role}
use Rattle.s7_partner.specs.declared.role.Role.TheVariants.{Active, Passive}
use Rattle.s7_partner.specs.declared.event.PartnerEvent.{PartnerEvent}
use Rattle.s7_partner.specs.declared.event.PartnerEvent.TheVariants as told
use Rattle.s7_partner.specs.States.{Parcel}
use Rattle.s7_partner_run.specs.declared.event.News.{News}
use Rattle.s7_partner_run.specs.declared.event.News.TheVariants as news
use Rattle.s7_partner_run.specs.declared.event.PairEvent.{PairEvent}

-- ---- one partner

abbrev pub news_of : PartnerEvent → Option News
news_of told.Sent = Some news.Sent
news_of (told.Received rid body) = Some (news.Received rid body)
news_of told.Pending = None
news_of told.Idle = None
news_of (told.Closed code) = Some (news.Closed code)

-- a poll reported that nothing is outstanding
abbrev pub tells_idle : PartnerEvent → Bool
tells_idle told.Sent = false
tells_idle (told.Received rid body) = false
tells_idle told.Pending = false
tells_idle told.Idle = true
tells_idle (told.Closed code) = false

-- the news of a poll, whose allocation may fail
abbrev pub news_by : Result PartnerEvent Memory → Result (Option News) Memory
news_by (Ok event) = Ok (news_of event)
news_by (Err memory) = Err memory

abbrev pub is_idle_by : Result PartnerEvent Memory → Bool
is_idle_by (Ok event) = tells_idle event
is_idle_by (Err memory) = false

abbrev pub list_of : Option News → List News
list_of None = []
list_of (Some n) = n ∷ []

abbrev pub received_by : News → List Parcel
received_by news.Sent = []
received_by (news.Received rid body) = record { rid = rid; body = body } ∷ []
received_by (news.Closed code) = []

-- the blocks that came, in order
abbrev pub received_in : List News → List Parcel
received_in [] = []
received_in (n ∷ ns) = received_by n ++ received_in ns

abbrev pub sent_by : News → ℕ
sent_by news.Sent = 1
sent_by (news.Received rid body) = 0
sent_by (news.Closed code) = 0

-- how many blocks were reported as sent
abbrev pub sent_in : List News → ℕ
sent_in [] = 0
sent_in (n ∷ ns) = sent_by n + sent_in ns

-- ---- two partners

-- the news of one of two partners
abbrev pub events_of : Role → Option News → List PairEvent
events_of role None = []
events_of role (Some n) = record { role = role; news = n } ∷ []

abbrev pub is_same : Role → Role → Bool
is_same Active Active = true
is_same Active Passive = false
is_same Passive Active = false
is_same Passive Passive = true

-- THE NEWS OF ONE OF TWO PARTNERS, in order
abbrev pub told_by : Role → List PairEvent → List News
told_by role [] = []
told_by role (e ∷ es) = if is_same role e.role then e.news ∷ told_by role es else told_by role es
