use Rattle.std.proofs.Common.{◌≡◌, ◌∙◌, IfOk, OnOk, ap}
use Rattle.std.specs.Prelude.{option_map}
use Rattle.std.proofs.lemmas.Result.{IfOk-weaker, on_ok_weaker}
use Rattle.s7_watch.specs.Lines.{result_text}
use Rattle.s7_watch.specs.Watching.{after_result}
use Rattle.s7_watch.specs.WatchShown.{look_out, tags_of, watch_told}
use Rattle.s7_watch.proofs.WatchLemmas.{failed_after, failed_text, for_out, none_out, read_after, read_text}
use Rattle.s7_watch.proofs.watch.Watch.take.Goals as goal

pub unreachable-requires : goal.unreachable-requires
unreachable-requires c =
    none_out (look_out (tags_of c.args.self.now)) c.args.self.now.out c.args.told.now.job c.in_default.not-Some c.requires.out

pub take_read-requires-clause-form : goal.take_read-requires-clause-form
take_read-requires-clause-form c =
    let w = c.args.self.now in
    c.requires.form c.if-told-eq0.true (look_out (tags_of w) c.in-Some.out) (ap (option_map (look_out (tags_of w))) c.in-Some.is)
