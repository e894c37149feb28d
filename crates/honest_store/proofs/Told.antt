-- Responses that are told truly, while others do more or less.
use Rattle.std.proofs.Common.{◌≡◌, ℕ, List, Option, refl}
use Rattle.imap_types.specs.declared.response.Response.{Response}
use Rattle.honest_store.specs.StoreMail.{StoreMail}
use Rattle.honest_store.specs.WellFormed.{IsStoreMail}
use Rattle.honest_store.specs.Others.{NoStep, OthersStep}
use Rattle.honest_store.specs.TrueResponses.{TellsTruly, NoMore, Tells, Meanwhile}
use Rattle.honest_store.specs.Uses.{KeepsUses}
use Rattle.honest_store.proofs.Used.{keeps_same, keeps_joined, keeps_happened}

pub told_alone : {selected : Option ℕ} {m m' : StoreMail} {rs : List Response} → TellsTruly NoStep selected m rs m' → m' ≡ m
told_alone NoMore = refl
told_alone (Tells r may is rest) = told_alone rest
told_alone (Meanwhile step rest) = absurd step

pub told_wider : {O P : StoreMail → StoreMail → Type 0} {selected : Option ℕ} {m m' : StoreMail} {rs : List Response} → ((a b : StoreMail) → O a b → P a b)
    → TellsTruly O selected m rs m' → TellsTruly P selected m rs m'
told_wider f NoMore = NoMore
told_wider f (Tells r may is rest) = Tells r may is (told_wider f rest)
told_wider f (Meanwhile {before} {mid} step rest) = Meanwhile (f before mid step) (told_wider f rest)

pub told_keeps : {selected : Option ℕ} {m m' : StoreMail} {rs : List Response} → TellsTruly OthersStep selected m rs m' → KeepsUses m m'
told_keeps (NoMore {mail}) = keeps_same mail mail refl
told_keeps (Tells r may is rest) = told_keeps rest
told_keeps (Meanwhile {before} {mid} {after} step rest) = keeps_joined before mid after (keeps_happened before mid step.happens) (told_keeps rest)

pub told_well_formed : {selected : Option ℕ} {m m' : StoreMail} {rs : List Response} → TellsTruly OthersStep selected m rs m' → IsStoreMail m → IsStoreMail m'
told_well_formed NoMore was = was
told_well_formed (Tells r may is rest) was = told_well_formed rest was
told_well_formed (Meanwhile step rest) was = told_well_formed rest step.well_formed
