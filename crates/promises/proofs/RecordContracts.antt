-- The same of the contracts of the calls on colour records, and of their exports.
use mathlib.Core.Path.{◌≡◌}
use Rattle.corkplover.proofs.records.read_label.Reads as read-label
use Rattle.corkplover.proofs.records.write_label.Reads as write-label
use Rattle.corkplover.proofs.records.pick_label.Reads as pick-label
use Rattle.corkplover.proofs.records.picked_label.Reads as picked-label
use Rattle.corkplover.proofs.record_exports.corkplover_read_label.Reads as corkplover-read-label
use Rattle.corkplover.proofs.record_exports.corkplover_write_label.Reads as corkplover-write-label
use Rattle.corkplover.proofs.record_exports.corkplover_pick_label.Reads as corkplover-pick-label
use Rattle.promises.proofs.Once.{once, once_both}

pub read_label_asks_nothing : (κs : _) (a : _) → read-label.Pre κs a
read_label_asks_nothing κs a = tt

pub read_label_once : (κs : _) (a : _) (r r' : _) (s s' : _) → read-label.Post κs a r s → read-label.Post κs a r' s' → r ≡ r'
read_label_once κs a r r' s s' = once

pub write_label_asks_nothing : (κs : _) (a : _) → write-label.Pre κs a
write_label_asks_nothing κs a = tt

pub write_label_once : (κs : _) (a : _) (r r' : _) (s s' : _) → write-label.Post κs a r s → write-label.Post κs a r' s' → r ≡ r'
write_label_once κs a r r' s s' = once

pub pick_label_asks_nothing : (κs : _) (a : _) → pick-label.Pre κs a
pick_label_asks_nothing κs a = tt

pub pick_label_once : (κs : _) (a : _) (r r' : _) (s s' : _) → pick-label.Post κs a r s → pick-label.Post κs a r' s' → r ≡ r'
pick_label_once κs a r r' s s' = once

pub picked_label_asks_nothing : (κs : _) (a : _) → picked-label.Pre κs a
picked_label_asks_nothing κs a = tt

-- of the part that is lent, what it holds
pub picked_label_once : (κs : _) (a : _) (r r' : _) (s s' : _) → picked-label.Post κs a r s → picked-label.Post κs a r' s'
    → (r.now ≡ r'.now) × (s.1.1.0.now ≡ s'.1.1.0.now)
picked_label_once κs a r r' s s' = once_both

pub corkplover_read_label_asks_nothing : (κs : _) (a : _) → corkplover-read-label.Pre κs a
corkplover_read_label_asks_nothing κs a = tt

pub corkplover_read_label_once : (κs : _) (a : _) (r r' : _) (s s' : _) → corkplover-read-label.Post κs a r s → corkplover-read-label.Post κs a r' s' → r ≡ r'
corkplover_read_label_once κs a r r' s s' = once

pub corkplover_write_label_asks_nothing : (κs : _) (a : _) → corkplover-write-label.Pre κs a
corkplover_write_label_asks_nothing κs a = tt

pub corkplover_write_label_once : (κs : _) (a : _) (r r' : _) (s s' : _) → corkplover-write-label.Post κs a r s → corkplover-write-label.Post κs a r' s'
    → (r ≡ r') × (s.1.1.1.1.0.now ≡ s'.1.1.1.1.0.now)
corkplover_write_label_once κs a r r' s s' = once_both

pub corkplover_pick_label_asks_nothing : (κs : _) (a : _) → corkplover-pick-label.Pre κs a
corkplover_pick_label_asks_nothing κs a = tt

pub corkplover_pick_label_once : (κs : _) (a : _) (r r' : _) (s s' : _) → corkplover-pick-label.Post κs a r s → corkplover-pick-label.Post κs a r' s' → r ≡ r'
corkplover_pick_label_once κs a r r' s s' = once
