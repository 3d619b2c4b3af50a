-- The lines for the news of partners.
use Rattle.std.specs.Prelude.{ℕ, ◌/◌, ◌%◌, List, [], ◌∷◌, ◌++◌, codes}
use Rattle.std.specs.List.{flat_map}
use Rattle.hex.specs.Hex.{encode_lower, encode_upper}
use Rattle.s7_partner.specs.declared.role.Role.{Role}
use Rattle.s7_partner.specs.declared.role.Role.TheVariants.{Active, Passive}
use Rattle.s7_partner_run.specs.declared.event.News.{News}
use Rattle.s7_partner_run.specs.declared.event.News.TheVariants as news
use Rattle.s7_partner_run.specs.declared.event.PairEvent.{PairEvent}

-- the active partner is `a`, the passive one `b`
abbrev pub name_of : Role → List ℕ
name_of Active = codes "a"
name_of Passive = codes "b"

-- a number below 4,294,967,296 in four octets
abbrev pub four_octets : ℕ → List ℕ
four_octets n = n / 16777216 ∷ n / 65536 % 256 ∷ n / 256 % 256 ∷ n % 256 ∷ []

-- octets in lower-case hexadecimal digits, or `-` if there are none
abbrev pub body_text : List ℕ → List ℕ
body_text [] = codes "-"
body_text (b ∷ bs) = encode_lower (b ∷ bs)

-- an R_ID is in eight lower-case digits, the number of an error in eight upper-case ones
abbrev pub news_text : News → List ℕ
news_text news.Sent = codes " sent"
news_text (news.Received rid body) = codes " received " ++ (encode_lower (four_octets rid) ++ 32 ∷ body_text body)
news_text (news.Closed code) = codes " closed " ++ encode_upper (four_octets code)

-- THE LINE of an event
abbrev pub event_text : PairEvent → List ℕ
event_text e = name_of e.role ++ (news_text e.news ++ 10 ∷ [])

-- the lines of events
abbrev pub events_text : List PairEvent → List ℕ
events_text es = flat_map event_text es

-- the line for a piece of news of the active partner
abbrev pub active_text : News → List ℕ
active_text n = event_text (record { role = Active; news = n })

abbrev pub actives_text : List News → List ℕ
actives_text ns = flat_map active_text ns
