-- What contracts see of a rig.
use Rattle.std.specs.Prelude.{ℕ, List, [], ◌∷◌, map}
use Rattle.s7_dialogue.specs.declared.job.JobResult.{JobResult}
use Rattle.s7_plant.specs.Books.{BookTold, book_told}
use Rattle.s7_rig.specs.declared.end.RigClient.{RigClient}
use Rattle.s7_rig.specs.declared.end.RigEnd.{RigEnd}
use Rattle.s7_rig.specs.declared.rig.Rig.{Rig}
use Rattle.s7_rig.specs.declared.script.ClientScript.{ClientScript}
use Rattle.s7_rig.specs.declared.station.Station.{Station}
use Rattle.s7_rig.specs.Scripts.{Script}
use Rattle.s7_rig.specs.State.{Post, State}

abbrev pub script_told : ClientScript → Script
script_told s = record { jobs = s.jobs.items; halts = s.halts }

-- a station as an element of the state
abbrev pub post_of : Station → Post
post_of s = record {
  link = s.link;
  rest = s.rest.items;
  halts = s.halts;
  client = s.client;
  session = s.session;
  pipes = s.pipes;
  results = s.results.items;
  places = s.places.items;
  noted = s.noted;
}

abbrev pub state_of : Rig → State
state_of r = record { book = book_told r.book; posts = map post_of r.stations.items }

-- the result of a client: its link, its results and the numbers of their entries
pub record ClientTold : Type 0 where
  pub link : ℕ
  pub results : List JobResult
  pub places : List (List ℕ)

-- the result of the whole rig
pub record EndTold : Type 0 where
  pub book : BookTold
  pub clients : List ClientTold

abbrev pub client_told : RigClient → ClientTold
client_told c = record { link = c.link; results = c.results.items; places = c.places.items }

abbrev pub end_told : RigEnd → EndTold
end_told e = record { book = book_told e.book; clients = map client_told e.clients.items }

-- the results of the first client, none if there is no client
abbrev pub results_in_first : List ClientTold → List JobResult
results_in_first [] = []
results_in_first (c ∷ clients) = c.results

abbrev pub first_results : EndTold → List JobResult
first_results end = results_in_first end.clients

-- what a client has done so far, as a result: its link, its results and their entries' numbers
abbrev pub post_told : Post → ClientTold
post_told p = record { link = p.link; results = p.results; places = p.places }

abbrev pub state_told : State → EndTold
state_told s = record { book = s.book; clients = map post_told s.posts }
