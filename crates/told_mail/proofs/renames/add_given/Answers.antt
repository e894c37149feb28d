use Rattle.std.proofs.Common.{ℕ, Option, Vec, Global, ◌∙◌, map, ap, sym}
use Rattle.std.specs.List.{cons_option}
use Rattle.std.specs.Option.{option_map}
use Rattle.told_mail.specs.Renames.{has_one_named}
use Rattle.told_mail.proofs.NameSets.{has_more}
use Rattle.told_mail.proofs.renames.add_given.Goals as goal

pub returns-in_ok-insert : goal.returns-in_ok-insert
returns-in_ok-insert c = λ q.
    has_more c.args.set.now.keys c.insert.new.self.keys c.in-Some.name c.in_ok-insert.ensures.keys q
    ∙ ap (λ (o : Option (Vec ℕ Global)). has_one_named q (cons_option (option_map (λ (v : Vec ℕ Global). v.items) o) (map (λ (v : Vec ℕ Global). v.items) c.args.set.now.keys)))
    (sym c.in-Some.is)
