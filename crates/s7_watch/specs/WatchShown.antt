-- A watcher as contracts see it.
use Rattle.std.specs.Prelude.{ℕ, List, map, Option, option_map}
use Rattle.s7_symbol.specs.declared.tag.Tag.{Tag}
use Rattle.s7_watch.specs.Samples.{Sample}
use Rattle.s7_watch.specs.Looks.{Look, look_at, looks_from}
use Rattle.s7_watch.specs.Watching.{WatchTold}
use Rattle.s7_watch.specs.declared.watch.Out.{Out}
use Rattle.s7_watch.specs.declared.watch.Watch.{Watch}
use Rattle.s7_watch.specs.declared.watched.Watched.{Watched}

abbrev pub tag_in : Watched → Tag
tag_in w = w.tag

-- the sample with these octets and this code
abbrev pub sample_with : List ℕ → ℕ → Sample
sample_with octets code = record { code = code; octets = octets }

-- the last sample of a tag
abbrev pub last_of : Watched → Option Sample
last_of w = option_map (sample_with w.octets.octets) w.code

abbrev pub tags_of : Watch → List Tag
tags_of watch = map tag_in watch.watched.items

abbrev pub look_out : List Tag → Out → Look
look_out tags out = look_at tags out.round out.number

abbrev pub watch_told : Watch → WatchTold
watch_told watch = record {
  ahead = looks_from (tags_of watch) watch.round watch.number watch.left;
  lasts = map last_of watch.watched.items;
  out = option_map (look_out (tags_of watch)) watch.out;
}
