use Rattle.std.proofs.Common.{rules, List, Some, map, string_bytes, ap, ◌∙◌}
use Rattle.gate_words.specs.reading.Lent.{setting_in}
use Rattle.gate_words.specs.Task.{IsCheck}
use Rattle.gate_words.specs.declared.option.LentSetting.{LentSetting}
use Rattle.gate_words.proofs.Tasks.{spelled-by, not-spelled, not-meant, ok-then, err-then}
use Rattle.gate_words.proofs.reading.check.Goals as goal

pub returns-in-Ok-clause-ok : goal.returns-in-Ok-clause-ok
returns-in-Ok-clause-ok c =
    ok-then c.check_by.result c.check_by.ensures.ok
    (λ task means. spelled-by IsCheck (map string_bytes c.args.options.now) (map setting_in c.as_slice.result.now) task
    (c.in-Ok.ensures.ok ∙ ap (λ (l : List LentSetting). Some (map setting_in l)) (search rules)) means)

pub returns-in-Ok-clause-refused : goal.returns-in-Ok-clause-refused
returns-in-Ok-clause-refused c =
    err-then c.check_by.result c.check_by.ensures.refused
    (λ error none is. not-meant IsCheck (map string_bytes c.args.options.now) (map setting_in c.as_slice.result.now)
    (c.in-Ok.ensures.ok ∙ ap (λ (l : List LentSetting). Some (map setting_in l)) (search rules)) (none is))

pub returns-in-Err-clause-refused : goal.returns-in-Err-clause-refused
returns-in-Err-clause-refused c is = not-spelled IsCheck (map string_bytes c.args.options.now) (c.in-Err.ensures.refused is)
