-- What the fields of a store keep.
use Rattle.clause_base.specs.StoreState.{StoreState}
use Rattle.clause_store.specs.Watching.{store_of, IsWatcher}
use Rattle.clause_store.specs.declared.store.Store.TheInside.{Inside}

abbrev pub state_of : Inside → StoreState
state_of a = store_of a.watcher

abbrev pub IsKept : Inside → Type 0
IsKept a = IsWatcher a.watcher
