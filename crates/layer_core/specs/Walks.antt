-- The items of an iterator over a layer.
use Rattle.layer_core.specs.declared.iter.FeatureRef.{FeatureRef}
use Rattle.layer_core.specs.Layers.{Feature}

-- the feature of an item of the iterator
abbrev pub feature_read : {G : Type 0} → FeatureRef G → Feature G
feature_read f = record { id = f.id.now; number = f.number; shape = f.shape.now }
