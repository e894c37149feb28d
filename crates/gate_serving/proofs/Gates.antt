-- What stays of a gate.
use Rattle.std.proofs.Common.{◌≡◌, refl, ◌∙◌}
use Rattle.gate_world.specs.Causes.{Hidden}
use Rattle.gate_serving.specs.declared.gate.Gate.{Gate}
use Rattle.gate_serving.specs.Gates.{RestStays, account_by}

-- where a gate stays, all of it but the machine and the uploads stays
pub rest_none : (gate : Gate) → RestStays gate gate
rest_none gate = record { door = refl; account = refl }

-- what stays up to a moment and after it stays
pub rest_both : {a b c : Gate} → RestStays a b → RestStays b c → RestStays a c
rest_both one two = record { door = two.door ∙ one.door; account = two.account ∙ one.account }

-- the same account, where the secrets are the same
pub same_account : {a b : Gate} {h k : Hidden} → RestStays a b → k ≡ h → account_by b k ≡ account_by a h
same_account rest same = (λ i. record { user = (rest.account i).user; password = (same i).password; token = (same i).token; base = (rest.account i).base })
