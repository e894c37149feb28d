use Rattle.std.proofs.Common.{Bool, ◌||◌, ◌∙◌, ap}
use Rattle.std.specs.List.{list_any}
use Rattle.mail_state.specs.reading.ThreadSteps.{has_lost, adds_to}
use Rattle.mail_state.proofs.TouchedThreads.{losses_are}
use Rattle.mail_state.proofs.threads.touched_threads.Goals as goal

pub returns : goal.returns
returns c = λ t.
    c.in_ok-note_losses.ensures t
    ∙ ap (λ (b : Bool). b || list_any (has_lost c.in_ok-gone.gone t) c.args.threads.now.entries) (c.in_ok-among.ensures t)
    ∙ ap (λ (b : Bool). list_any (adds_to c.args.emails.now.entries t) c.args.touches.now || b)
    (losses_are c.in_ok-gone.gone c.args.touches.now c.args.threads.now.entries t c.in_ok-gone.ensures)
