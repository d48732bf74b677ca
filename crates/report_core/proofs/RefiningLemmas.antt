-- The records of candidates that are decided block by block.
use Rattle.std.proofs.Common.{◌≡◌, ℕ, ◌+◌, ◌<◌, List, [], ◌∷◌, ◌++◌, Option, Result, All, IsOk, length, sym, ap, subst, ◌∙◌, append_assoc, append-nil}
use Rattle.std.specs.Global.{Global}
use Rattle.std.specs.List.{flat_map}
use Rattle.std.specs.declared.alloc.AllocError.{AllocError}
use Rattle.std.specs.declared.vec.Vec.{Vec}
use Rattle.std.proofs.lemmas.List.{nil_from_length}
use Rattle.std.proofs.lemmas.List.Elements.{All-nil, All-cons, All-head, All-tail, All-contains, Contains-get_or, Contains-append_left, Contains-append_right}
use Rattle.layer_core.specs.Layers.{Contents}
use Rattle.refine_core.specs.declared.refined.Refined.{Refined}
use Rattle.refine_core.specs.Refinements.{AreRefined, none, kept, left_out, with_answer}
use Rattle.refine_core.proofs.RefinementLemmas.{refined_append}
use Rattle.report_core.specs.declared.columns.Columns.{Columns}
use Rattle.report_core.specs.Columns.{AreColumnsFor}
use Rattle.report_core.specs.RefinedReports.{AreMatches, AreRefinedRows, IsRefinedReport}
use Rattle.report_core.specs.ReportRows.{AddsRows, IsRowOf, header_line, text_or_none}
use Rattle.report_core.specs.Reports.{IsReportBy}
use Rattle.report_core.specs.Written.{joined}
use Rattle.report_core.proofs.ReportChunkLemmas.{no_rows, rows_append, report_of_chunks}

-- a fact of all elements is one of those in front, in the middle and behind
pub all_behind : {X : Type 0} (P : X → Type 0) (front rest : List X) → All P (front ++ rest) → All P rest
all_behind P front rest all = λ k d l. All-contains P (front ++ rest) _ all (Contains-append_right front rest _ (Contains-get_or rest k d l))

pub all_in_front : {X : Type 0} (P : X → Type 0) (front rest : List X) → All P (front ++ rest) → All P front
all_in_front P front rest all = λ k d l. All-contains P (front ++ rest) _ all (Contains-append_left front rest _ (Contains-get_or front k d l))

pub all_of_block : {X : Type 0} (P : X → Type 0) (all done rest block after : List X) → done ++ rest ≡ all → rest ≡ block ++ after → All P all → All P block
all_of_block P all done rest block after split parts every =
    all_in_front P block after (subst (All P) parts (all_behind P done rest (subst (All P) (sym split) every)))

module _ {A : Type 0} (stands : ℕ → ℕ → Type 0) (answers : ℕ → ℕ → A → Type 0) where
  -- the refined pairs are matches
  pub all_matches : (P : Refined A → Type 0) {ps : List (ℕ × ℕ)} {s : List (Refined A)} → AreMatches stands answers P → AreRefined stands answers ps s → All P s
  all_matches P are none = All-nil P
  all_matches P are (kept {pair} {answer} {pairs} {refined} h k a) =
      All-cons P (with_answer pair answer) refined (are (with_answer pair answer) h k) (all_matches P are a)
  all_matches P are (left_out h a) = all_matches P are a

  -- a fact of all candidates is one of the refined pairs
  all_kept : (P : ℕ × ℕ → Type 0) {ps : List (ℕ × ℕ)} {s : List (Refined A)} → AreRefined stands answers ps s → All P ps → All (λ (r : Refined A). P r.pair) s
  all_kept P none all = All-nil (λ (r : Refined A). P r.pair)
  all_kept P (kept {pair} {answer} {pairs} {refined} h k a) all =
      All-cons (λ (r : Refined A). P r.pair) (with_answer pair answer) refined (All-head P pair pairs all) (all_kept P a (All-tail P pair pairs all))
  all_kept P (left_out {pair} {pairs} {refined} h a) all = all_kept P a (All-tail P pair pairs all)

  -- columns for all candidates are columns for the refined pairs of a block
  pub columns_refined : {G : Type 0} (columns : Columns) (left right : Contents G) (candidates done rest block after : List (ℕ × ℕ)) (s : List (Refined A))
      → done ++ rest ≡ candidates → rest ≡ block ++ after → AreRefined stands answers block s
      → AreColumnsFor (λ (p : ℕ × ℕ). p) left right candidates columns → AreColumnsFor (λ (r : Refined A). r.pair) left right s columns
  columns_refined columns left right candidates done rest block after s split parts are cover =
      let P : ℕ × ℕ → Type 0 = λ p. p.0 + 1 < length columns.left.starts.items in
      let Q : ℕ × ℕ → Type 0 = λ p. p.1 + 1 < length columns.right.starts.items in
      record {
        left_column = cover.left_column;
        right_column = cover.right_column;
        left_within = all_kept P are (all_of_block P candidates done rest block after split parts cover.left_within);
        right_within = all_kept Q are (all_of_block Q candidates done rest block after split parts cover.right_within);
      }

  module _ (R : Refined A → List (List ℕ) → Type 0) where
    pub none_refined : AreRefinedRows stands answers R [] []
    none_refined = record { refined = []; are_refined = none; rows = no_rows R }

    pub refined_rows_append : (ps qs : List (ℕ × ℕ)) (s t : List ℕ) → AreRefinedRows stands answers R ps s → AreRefinedRows stands answers R qs t
        → AreRefinedRows stands answers R (ps ++ qs) (s ++ t)
    refined_rows_append ps qs s t a b = record {
      refined = a.refined ++ b.refined;
      are_refined = refined_append stands answers a.are_refined b.are_refined;
      rows = rows_append R a.refined b.refined s t a.rows b.rows;
    }

    -- the records of the candidates before those that are left
    pub record IsWritten (candidates rest : List (ℕ × ℕ)) (text : List ℕ) : Type 0 where
      pub done : List (ℕ × ℕ)
      pub split : done ++ rest ≡ candidates
      pub rows : AreRefinedRows stands answers R done text

    pub nothing_written : (candidates rest : List (ℕ × ℕ)) (text : List ℕ) → rest ≡ candidates → text ≡ [] → IsWritten candidates rest text
    nothing_written candidates rest text same empty = record {
      done = [];
      split = same;
      rows = subst (AreRefinedRows stands answers R []) (sym empty) none_refined;
    }

    pub block_written : (candidates rest block after : List (ℕ × ℕ)) (refined : List (Refined A)) (old new : List ℕ)
        → IsWritten candidates rest old → rest ≡ block ++ after → AreRefined stands answers block refined → AddsRows R refined old new
        → IsWritten candidates after new
    block_written candidates rest block after refined old new so_far parts are adds = record {
      done = so_far.done ++ block;
      split = append_assoc so_far.done block after ∙ ap (λ r. so_far.done ++ r) (sym parts) ∙ so_far.split;
      rows = subst (AreRefinedRows stands answers R (so_far.done ++ block)) (sym adds.added)
          (refined_rows_append so_far.done block old adds.text so_far.rows (record { refined = refined; are_refined = are; rows = adds.are_rows }));
    }

    pub all_written : (candidates rest : List (ℕ × ℕ)) (text : List ℕ) → IsWritten candidates rest text → length rest ≡ 0
        → AreRefinedRows stands answers R candidates text
    all_written candidates rest text written empty =
        let no_more : rest ≡ [] = nil_from_length rest empty in
        let all : written.done ≡ candidates = sym (append-nil written.done) ∙ ap (λ r. written.done ++ r) (sym no_more) ∙ written.split in
        subst (λ ps. AreRefinedRows stands answers R ps text) all written.rows

-- the header alone, and then the records of all chunks, are the report of the candidates that satisfy the condition
pub refined_report : {G A : Type 0} (stands : ℕ → ℕ → Type 0) (answers : ℕ → ℕ → A → Type 0) (name : Option (List ℕ)) (is_field : G → G → List ℕ → Type 0)
    (left right : Contents G) (candidates : List (ℕ × ℕ)) (old mid new : List (Vec ℕ Global)) (header : Vec ℕ Global)
    (parts : List (Result (Vec ℕ Global) AllocError)) → old ≡ [] → mid ≡ old ++ header ∷ [] → header.items ≡ header_line name
    → (All IsOk parts → AreRefinedRows stands answers (IsRowOf (λ (r : Refined A). r.pair) name is_field left right) candidates (flat_map text_or_none parts))
    → All IsOk parts → joined new ≡ joined mid ++ flat_map text_or_none parts
    → IsRefinedReport stands answers (IsReportBy name is_field left right) candidates (joined new)
refined_report {A = A} stands answers name is_field left right candidates old mid new header parts empty grown is rows ok all =
    let these = rows ok in
    record {
      refined = these.refined;
      are_refined = these.are_refined;
      report = report_of_chunks (λ (r : Refined A). r.pair) name is_field left right these.refined old mid new header parts empty grown is
          (λ oks. these.rows) ok all;
    }
