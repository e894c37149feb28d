use Rattle.std.proofs.Common.{rules, ◌≡◌, [], None, map, drop, string_bytes, ◌∙◌}
use Rattle.gate_words.specs.Options.{values_of}
use Rattle.gate_words.specs.Task.{StoresAt}
use Rattle.gate_words.specs.reading.Lent.{setting_in}
use Rattle.gate_words.specs.declared.option.Name.TheVariants.{Store, User, Base}
use Rattle.gate_words.proofs.ClapTasks.{store-meant, store-none, store-rows, store-takes}
use Rattle.gate_words.proofs.SettingsSpelled.{spelled-from}
use Rattle.gate_words.proofs.Tasks.{err-then, ok-then}
use Rattle.gate_words.proofs.reading.store_by.Goals as goal

pub returns-in-Ok-clause-ok : goal.returns-in-Ok-clause-ok
returns-in-Ok-clause-ok c =
    let settings = map setting_in c.args.settings.now in
    let words = map string_bytes c.args.words.now in
    let listen = c.in-Some._listen.now in
    let count = c.in-Some-connections_in._connections in
    let store : values_of Store settings ≡ [] = search rules in
    let user : values_of User settings ≡ [] = search rules in
    let base : values_of Base settings ≡ [] = search rules in
    let means : StoresAt settings listen count =
    record { listens = c.in-Some.ensures.some; counts = c.in-Some-connections_in.ensures.some; store = store; user = user; base = base } in
    let spelled = spelled-from (drop 1 words) None settings c.requires.spelled in
    let rows = c.in-Ok.ensures.found ∙ store-rows words settings listen count spelled means in
    ok-then c.store_found.result c.store_found.ensures.ok (λ task given. store-meant settings c.in-Ok.matches listen count rows means task given)

pub returns-in-Ok-clause-refused : goal.returns-in-Ok-clause-refused
returns-in-Ok-clause-refused c =
    let settings = map setting_in c.args.settings.now in
    let words = map string_bytes c.args.words.now in
    let listen = c.in-Some._listen.now in
    let count = c.in-Some-connections_in._connections in
    let store : values_of Store settings ≡ [] = search rules in
    let user : values_of User settings ≡ [] = search rules in
    let base : values_of Base settings ≡ [] = search rules in
    let means : StoresAt settings listen count =
    record { listens = c.in-Some.ensures.some; counts = c.in-Some-connections_in.ensures.some; store = store; user = user; base = base } in
    let spelled = spelled-from (drop 1 words) None settings c.requires.spelled in
    let rows = c.in-Ok.ensures.found ∙ store-rows words settings listen count spelled means in
    err-then c.store_found.result c.store_found.ensures.refused (λ error none is. store-none settings c.in-Ok.matches rows (none is))

pub returns-in-Err-clause-refused : goal.returns-in-Err-clause-refused
returns-in-Err-clause-refused c = λ is.
    let settings = map setting_in c.args.settings.now in
    let words = map string_bytes c.args.words.now in
    let listen = c.in-Some._listen.now in
    let count = c.in-Some-connections_in._connections in
    let store : values_of Store settings ≡ [] = search rules in
    let user : values_of User settings ≡ [] = search rules in
    let base : values_of Base settings ≡ [] = search rules in
    let means : StoresAt settings listen count =
    record { listens = c.in-Some.ensures.some; counts = c.in-Some-connections_in.ensures.some; store = store; user = user; base = base } in
    let spelled = spelled-from (drop 1 words) None settings c.requires.spelled in
    absurd (c.in-Err.ensures.refused is (store-takes words settings listen count spelled means))
