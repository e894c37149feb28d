use Rattle.std.proofs.Common.{◌≡◌, ℕ, Vec, Global, vec_len}
use Rattle.std.specs.List.{AllZip, each_same}
use Rattle.told_mail.proofs.NameLemmas.{copied}
use Rattle.told_mail.proofs.names.copy_numbers.Goals as goal

pub returns : goal.returns
returns c =
    copied (λ (x y : Vec ℕ Global). AllZip (λ (a b : ℕ). b ≡ a) x.items y.items × (vec_len y ≡ vec_len x)) (λ (v w : ℕ). w ≡ v) (λ x y k. each_same x.items y.items k.0)
    (λ v w k. k)
    c.args.numbers.now c.clone.result _ c.clone.ensures.cases
