use Rattle.std.proofs.Common.{refl, arith}
use Rattle.told_folder.proofs.OpenLemmas.{put_goes, put_fails}
use Rattle.told_folder.proofs.telling.put_new.Goals as goal

pub returns-in-Ok : goal.returns-in-Ok
returns-in-Ok c =
    put_goes _ _ c.args.message c.requires.ascends c.requires.free c.requires.mark
    (record {
      folder = refl;
      rises = omega (arith, c.one_more-work.ensures);
      stands = λ e l. absurd (omega (arith, e, l, c.one_more-work.ensures));
      draws = λ e l. absurd (omega (arith, e, l, c.one_more-work.ensures));
    }) c.in-Ok.ensures.ok refl c.in_ok-insert.ensures.updates.0

pub returns-in-Err : goal.returns-in-Err
returns-in-Err c =
    put_fails _ _ _ c.args.message.mark _ c.insert.new.self _ (omega (arith, c.requires.mark)) refl c.in-Err.ensures.err refl refl
    c.in_ok-insert.ensures.updates.0 c.remove.ensures.updates.0
