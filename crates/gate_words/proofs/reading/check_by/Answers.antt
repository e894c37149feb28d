use Rattle.std.proofs.Common.{rules, ◌≡◌, [], None, map, drop, string_bytes, ◌∙◌}
use Rattle.gate_words.specs.Options.{values_of}
use Rattle.gate_words.specs.Task.{ChecksAt}
use Rattle.gate_words.specs.reading.Lent.{setting_in}
use Rattle.gate_words.specs.declared.option.Name.TheVariants.{Base, Listen, Connections}
use Rattle.gate_words.proofs.ClapTasks.{check-meant, check-none, check-rows, check-takes}
use Rattle.gate_words.proofs.SettingsSpelled.{spelled-from}
use Rattle.gate_words.proofs.Tasks.{err-then, ok-then}
use Rattle.gate_words.proofs.reading.check_by.Goals as goal

pub returns-in-Ok-clause-ok : goal.returns-in-Ok-clause-ok
returns-in-Ok-clause-ok c =
    let settings = map setting_in c.args.settings.now in
    let words = map string_bytes c.args.words.now in
    let store = c.in-Some._store.now in
    let user = c.in-Some-user_named._user.now in
    let base : values_of Base settings ≡ [] = search rules in
    let listens : values_of Listen settings ≡ [] = search rules in
    let counts : values_of Connections settings ≡ [] = search rules in
    let means : ChecksAt settings store user =
    record {
      store_is = c.in-Some.ensures.some;
      user_is = c.in-Some-user_named.ensures.some.0;
      user_rule = c.in-Some-user_named.ensures.some.1;
      base = base;
      listens = listens;
      counts = counts;
    } in
    let spelled = spelled-from (drop 1 words) None settings c.requires.spelled in
    let rows = c.in-Ok.ensures.found ∙ check-rows words settings store user spelled means in
    ok-then c.check_found.result c.check_found.ensures.ok (λ task given. check-meant settings c.in-Ok.matches store user rows means task given)

pub returns-in-Ok-clause-refused : goal.returns-in-Ok-clause-refused
returns-in-Ok-clause-refused c =
    let settings = map setting_in c.args.settings.now in
    let words = map string_bytes c.args.words.now in
    let store = c.in-Some._store.now in
    let user = c.in-Some-user_named._user.now in
    let base : values_of Base settings ≡ [] = search rules in
    let listens : values_of Listen settings ≡ [] = search rules in
    let counts : values_of Connections settings ≡ [] = search rules in
    let means : ChecksAt settings store user =
    record {
      store_is = c.in-Some.ensures.some;
      user_is = c.in-Some-user_named.ensures.some.0;
      user_rule = c.in-Some-user_named.ensures.some.1;
      base = base;
      listens = listens;
      counts = counts;
    } in
    let spelled = spelled-from (drop 1 words) None settings c.requires.spelled in
    let rows = c.in-Ok.ensures.found ∙ check-rows words settings store user spelled means in
    err-then c.check_found.result c.check_found.ensures.refused (λ error none is. check-none settings c.in-Ok.matches rows (none is))

pub returns-in-Err-clause-refused : goal.returns-in-Err-clause-refused
returns-in-Err-clause-refused c = λ is.
    let settings = map setting_in c.args.settings.now in
    let words = map string_bytes c.args.words.now in
    let store = c.in-Some._store.now in
    let user = c.in-Some-user_named._user.now in
    let base : values_of Base settings ≡ [] = search rules in
    let listens : values_of Listen settings ≡ [] = search rules in
    let counts : values_of Connections settings ≡ [] = search rules in
    let means : ChecksAt settings store user =
    record {
      store_is = c.in-Some.ensures.some;
      user_is = c.in-Some-user_named.ensures.some.0;
      user_rule = c.in-Some-user_named.ensures.some.1;
      base = base;
      listens = listens;
      counts = counts;
    } in
    let spelled = spelled-from (drop 1 words) None settings c.requires.spelled in
    absurd (c.in-Err.ensures.refused is (check-takes words settings store user spelled means))
