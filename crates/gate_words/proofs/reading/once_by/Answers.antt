use Rattle.std.proofs.Common.{rules, ◌≡◌, [], None, map, drop, string_bytes, ◌∙◌}
use Rattle.gate_words.specs.Options.{values_of}
use Rattle.gate_words.specs.Task.{AnswersAt}
use Rattle.gate_words.specs.reading.Lent.{place_in, setting_in}
use Rattle.gate_words.specs.declared.option.Name.TheVariants.{Listen, Connections}
use Rattle.gate_words.proofs.ClapTasks.{once-meant, once-none, once-rows, once-takes}
use Rattle.gate_words.proofs.SettingsSpelled.{spelled-from}
use Rattle.gate_words.proofs.Tasks.{err-then, ok-then}
use Rattle.gate_words.proofs.reading.once_by.Goals as goal

pub returns-in-Ok-clause-ok : goal.returns-in-Ok-clause-ok
returns-in-Ok-clause-ok c =
    let settings = map setting_in c.args.settings.now in
    let words = map string_bytes c.args.words.now in
    let place = place_in c.in-Some._place in
    let listens : values_of Listen settings ≡ [] = search rules in
    let counts : values_of Connections settings ≡ [] = search rules in
    let means : AnswersAt settings place = record { names = c.in-Some.ensures.some; listens = listens; counts = counts } in
    let spelled = spelled-from (drop 1 words) None settings c.requires.spelled in
    let rows = c.in-Ok.ensures.found ∙ once-rows words settings place spelled means in
    ok-then c.once_found.result c.once_found.ensures.ok (λ task given. once-meant settings c.in-Ok.matches place rows means task given)

pub returns-in-Ok-clause-refused : goal.returns-in-Ok-clause-refused
returns-in-Ok-clause-refused c =
    let settings = map setting_in c.args.settings.now in
    let words = map string_bytes c.args.words.now in
    let place = place_in c.in-Some._place in
    let listens : values_of Listen settings ≡ [] = search rules in
    let counts : values_of Connections settings ≡ [] = search rules in
    let means : AnswersAt settings place = record { names = c.in-Some.ensures.some; listens = listens; counts = counts } in
    let spelled = spelled-from (drop 1 words) None settings c.requires.spelled in
    let rows = c.in-Ok.ensures.found ∙ once-rows words settings place spelled means in
    err-then c.once_found.result c.once_found.ensures.refused (λ error none is. once-none settings c.in-Ok.matches rows (none is))

pub returns-in-Err-clause-refused : goal.returns-in-Err-clause-refused
returns-in-Err-clause-refused c = λ is.
    let settings = map setting_in c.args.settings.now in
    let words = map string_bytes c.args.words.now in
    let place = place_in c.in-Some._place in
    let listens : values_of Listen settings ≡ [] = search rules in
    let counts : values_of Connections settings ≡ [] = search rules in
    let means : AnswersAt settings place = record { names = c.in-Some.ensures.some; listens = listens; counts = counts } in
    let spelled = spelled-from (drop 1 words) None settings c.requires.spelled in
    absurd (c.in-Err.ensures.refused is (once-takes words settings place spelled means))
