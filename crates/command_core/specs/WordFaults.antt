-- The text and the status for words that are no command.
use Rattle.std.specs.Prelude.{ℕ, true, false, List, ◌++◌, codes, string_bytes}
use Rattle.relation_core.specs.FaultTexts.{mask_text, allows_disjoint_text}
use Rattle.run_core.specs.Lines.{line_of}
use Rattle.pair_core.specs.OptionTexts.{option_text}
use Rattle.words_core.specs.declared.words.WordFault.{WordFault}
use Rattle.words_core.specs.declared.words.WordFault.TheVariants.{Usage, Relation, AllowsDisjoint}
use Rattle.words_core.specs.declared.words.WordFault.TheVariants.{Options, Scale, Distance, Most}
use Rattle.words_core.specs.declared.words.WordFault.TheVariants.{ScaleOfAny, DistanceOfAny}
use Rattle.words_core.specs.declared.words.WordFault.TheVariants.{Geometry, RingsOfBoxes, Rings}
use Rattle.words_core.specs.declared.words.WordFault.TheVariants.{Delimiter, LeftDelimiter}
use Rattle.words_core.specs.declared.words.WordFault.TheVariants.{RightDelimiter, Memory}

abbrev pub word_status_of : WordFault → ℕ
word_status_of (Usage text true) = 0
word_status_of (Usage text false) = 2
word_status_of (Relation fault) = 2
word_status_of AllowsDisjoint = 2
word_status_of (Options fault) = 2
word_status_of Scale = 2
word_status_of ScaleOfAny = 2
word_status_of Distance = 2
word_status_of DistanceOfAny = 2
word_status_of Most = 2
word_status_of Geometry = 2
word_status_of RingsOfBoxes = 2
word_status_of Rings = 2
word_status_of Delimiter = 2
word_status_of LeftDelimiter = 2
word_status_of RightDelimiter = 2
word_status_of Memory = 1

abbrev pub distance_text : List ℕ
distance_text = codes "--distance must be a number of the scale, 0 to 4000000000000 units"

abbrev pub any_reach_text : List ℕ
any_reach_text = codes "--distance must be a number of the scale, 0 to 4000000000000000000 units"

-- the text of `clap`, or one of the program's own lines
abbrev pub word_fault_line : WordFault → List ℕ
word_fault_line (Usage text help) = string_bytes text
word_fault_line (Relation fault) = line_of (codes "--relation: " ++ mask_text fault)
word_fault_line AllowsDisjoint = line_of (codes "--relation: " ++ allows_disjoint_text)
word_fault_line (Options fault) = line_of (option_text fault)
word_fault_line Scale = line_of (codes "--scale must be 0 to 6")
word_fault_line ScaleOfAny = line_of (codes "--scale must be 0 to 15")
word_fault_line Distance = line_of distance_text
word_fault_line DistanceOfAny = line_of any_reach_text
word_fault_line Most = line_of (codes "--most must be 1 to 4294967295")
word_fault_line Geometry = line_of (codes "--geometry must be box or any")
word_fault_line RingsOfBoxes = line_of (codes "--rings needs --geometry any")
word_fault_line Rings = line_of (codes "--rings must be proper or even-odd")
word_fault_line Delimiter = line_of (codes "--delimiter must be , ; or tab")
word_fault_line LeftDelimiter = line_of (codes "--left-delimiter must be , ; or tab")
word_fault_line RightDelimiter = line_of (codes "--right-delimiter must be , ; or tab")
word_fault_line Memory = line_of (codes "no memory")
