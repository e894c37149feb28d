-- The store, as its owner has it.
use Rattle.std.specs.Borrow.{Fml, Lends, MutBor}
use Rattle.honest_store.specs.Sessions.{StoreSession}
use Rattle.small_store.specs.contracts.StoreMachine as machine
use Rattle.store_world.specs.contracts.store_world.StoreWorld.{the_row}
use Rattle.store_world.specs.StoreBehindLink.{StoreBehindLink, with_session}

-- the world ends as it was, over the session that is left behind the reference
abbrev pub LendsStore : MutBor StoreBehindLink → MutBor StoreSession → Fml
LendsStore w store = Lends the_row machine.the_row w store (with_session w.now)
