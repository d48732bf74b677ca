use Rattle.any_relation_core.proofs.NamedBoxLemmas.{equals_boxes, within_boxes, covered_by_boxes, contains_boxes, covers_boxes, properly_boxes}
use Rattle.any_relation_core.proofs.laws.named_box_law.Goals as goal

pub returns : goal.returns
returns c = record {
  equals = equals_boxes;
  within = within_boxes;
  covered_by = covered_by_boxes;
  contains = contains_boxes;
  covers = covers_boxes;
  properly = properly_boxes;
}
