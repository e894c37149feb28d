use Rattle.std.proofs.Common.{◌∙◌, ℕ, List, Vec, Global, ap}
use Rattle.std.specs.Map.{lookup}
use Rattle.told_mail.proofs.LineLemmas.{at}
use Rattle.told_mail.proofs.NameLemmas.{place_cut}
use Rattle.told_mail.proofs.names.cut_name.Goals as goal

pub returns : goal.returns
returns c = λ q.
    ap (λ (es : List (Vec ℕ Global × ℕ)). lookup (at q) es) c.remove.ensures.entries
    ∙ place_cut c.args.numbers.now.entries c.args.name.now q c.remove.new.self.entries c.remove.ensures.entries c.remove.ensures.updates.1
