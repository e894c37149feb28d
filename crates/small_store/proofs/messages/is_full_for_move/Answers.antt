use Rattle.std.proofs.Common.{◌≡◌, ◌∙◌, Some, ap, sym, nat_le}
use Rattle.std.specs.List.{slice_get}
use Rattle.small_store.proofs.Moving.{free_elsewhere, last_stays, last_within}
use Rattle.small_store.proofs.Reading.{read_at}
use Rattle.small_store.proofs.messages.is_full_for_move.Goals as goal

pub returns-then-is_last_message : goal.returns-then-is_last_message
returns-then-is_last_message c = λ f t u at_f room at_t.
    let mail = c.args.mail.now in
    let before = c.index-folders-target.result in
    let was : slice_get mail.folders c.args.target ≡ Some before = read_at c.folders.result.now mail.folders c.folders.ensures c.args.target before c.requires.folder c.index-folders-target.is in
    sym (last_stays mail c.args.source c.args.target f t before u c.requires.whole at_f was at_t room (sym c.is_last_message.ensures ∙ c.if-is_last_message.true))

pub returns-then-source-target : goal.returns-then-source-target
returns-then-source-target c = λ f t u at_f room at_t.
    let mail = c.args.mail.now in
    let before = c.index-folders-target.result in
    let was : slice_get mail.folders c.args.target ≡ Some before = read_at c.folders.result.now mail.folders c.folders.ensures c.args.target before c.requires.folder c.index-folders-target.is in
    sym (free_elsewhere mail c.args.source c.args.target f t before u c.requires.whole at_f was at_t c.if-source-target.true
    (sym c.is_last_message.ensures ∙ c.if-is_last_message.false))

pub returns : goal.returns
returns c = λ f t u at_f room at_t.
    let mail = c.args.mail.now in
    let before = c.index-folders-target.result in
    let was : slice_get mail.folders c.args.target ≡ Some before = read_at c.folders.result.now mail.folders c.folders.ensures c.args.target before c.requires.folder c.index-folders-target.is in
    ap (nat_le 9223372036854775806) c.highest.ensures
    ∙ sym (last_within mail c.args.source c.args.target f t before u c.requires.whole at_f was at_t c.if-source-target.false
    (sym c.is_last_message.ensures ∙ c.if-is_last_message.false))
