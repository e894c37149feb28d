use Rattle.std.proofs.Common.{None, map, drop, string_bytes, ◌∙◌}
use Rattle.gate_words.specs.Task.{ServesAt}
use Rattle.gate_words.specs.reading.Lent.{place_in, setting_in}
use Rattle.gate_words.proofs.ClapTasks.{serve-meant, serve-none, serve-rows, serve-takes}
use Rattle.gate_words.proofs.SettingsSpelled.{spelled-from}
use Rattle.gate_words.proofs.Tasks.{err-then, ok-then}
use Rattle.gate_words.proofs.reading.serve_by.Goals as goal

pub returns-in-Ok-clause-ok : goal.returns-in-Ok-clause-ok
returns-in-Ok-clause-ok c =
    let settings = map setting_in c.args.settings.now in
    let words = map string_bytes c.args.words.now in
    let place = place_in c.in-Some._place in
    let listen = c.in-Some-single._listen.now in
    let count = c.in-Some-connections_in._connections in
    let means : ServesAt settings place listen count =
    record { names = c.in-Some.ensures.some; listens = c.in-Some-single.ensures.some; counts = c.in-Some-connections_in.ensures.some } in
    let spelled = spelled-from (drop 1 words) None settings c.requires.spelled in
    let rows = c.in-Ok.ensures.found ∙ serve-rows words settings place listen count spelled means in
    ok-then c.serve_found.result c.serve_found.ensures.ok (λ task given. serve-meant settings c.in-Ok.matches place listen count rows means task given)

pub returns-in-Ok-clause-refused : goal.returns-in-Ok-clause-refused
returns-in-Ok-clause-refused c =
    let settings = map setting_in c.args.settings.now in
    let words = map string_bytes c.args.words.now in
    let place = place_in c.in-Some._place in
    let listen = c.in-Some-single._listen.now in
    let count = c.in-Some-connections_in._connections in
    let means : ServesAt settings place listen count =
    record { names = c.in-Some.ensures.some; listens = c.in-Some-single.ensures.some; counts = c.in-Some-connections_in.ensures.some } in
    let spelled = spelled-from (drop 1 words) None settings c.requires.spelled in
    let rows = c.in-Ok.ensures.found ∙ serve-rows words settings place listen count spelled means in
    err-then c.serve_found.result c.serve_found.ensures.refused (λ error none is. serve-none settings c.in-Ok.matches rows (none is))

pub returns-in-Err-clause-refused : goal.returns-in-Err-clause-refused
returns-in-Err-clause-refused c = λ is.
    let settings = map setting_in c.args.settings.now in
    let words = map string_bytes c.args.words.now in
    let place = place_in c.in-Some._place in
    let listen = c.in-Some-single._listen.now in
    let count = c.in-Some-connections_in._connections in
    let means : ServesAt settings place listen count =
    record { names = c.in-Some.ensures.some; listens = c.in-Some-single.ensures.some; counts = c.in-Some-connections_in.ensures.some } in
    let spelled = spelled-from (drop 1 words) None settings c.requires.spelled in
    absurd (c.in-Err.ensures.refused is (serve-takes words settings place listen count spelled means))
