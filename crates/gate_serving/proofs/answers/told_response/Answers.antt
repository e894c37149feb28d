use Rattle.std.proofs.Common.{Ok, Err}
use Rattle.std.specs.Option.{option_copied}
use Rattle.email_bodies.specs.declared.error.BodyError.TheVariants as body
use Rattle.gate_serving.proofs.Made.{ended, lacked, made_found}
use Rattle.gate_serving.proofs.answers.told_response.Goals as goal

pub returns-in-Err-Memory : goal.returns-in-Err-Memory
returns-in-Err-Memory g c =
    lacked g.B.BodySource.answers g.B.BodySource.lacks c.args.state.now.rows.numbered.rows c.args.uploads.now c.args.blob.now _ _ _ c.in-Err-Memory.ensures

pub returns-in-Err-Ended : goal.returns-in-Err-Ended
returns-in-Err-Ended g c =
    made_found g.B.BodySource.answers g.B.BodySource.lacks c.args.state.now.rows.numbered.rows c.args.uploads.now c.args.blob.now _ _ c.args.door
    (option_copied c.args.media) (Err body.Ended) c.untold_response.result
    (ended g.B.BodySource.answers g.B.BodySource.lacks _ _ (rw c.in-Err-Ended.field-0-is at c.in-Err-Ended.ensures)) c.untold_response.ensures

pub returns-in-Ok : goal.returns-in-Ok
returns-in-Ok g c =
    made_found g.B.BodySource.answers g.B.BodySource.lacks c.args.state.now.rows.numbered.rows c.args.uploads.now c.args.blob.now _ _ c.args.door
    (option_copied c.args.media) (Ok c.in-Ok.found) c.found_response.result c.in-Ok.ensures c.found_response.ensures
