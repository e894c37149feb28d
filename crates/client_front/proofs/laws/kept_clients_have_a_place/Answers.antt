use Rattle.client_front.proofs.KeptPlaces as lemmas
use Rattle.client_front.proofs.laws.kept_clients_have_a_place.Goals as goal

pub returns-clause-place : goal.returns-clause-place
returns-clause-place g c = λ front reached. lemmas.kept-has-place _ reached

pub returns-clause-stays : goal.returns-clause-stays
returns-clause-stays g c = λ front now stream after reached some added.
    lemmas.client-stays g.L.Stream.ClientStream.closes now stream front.leaving after (lemmas.kept-has-place _ reached) some added
