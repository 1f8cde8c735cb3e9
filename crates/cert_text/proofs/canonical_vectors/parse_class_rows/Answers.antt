use Rattle.std.proofs.Common.{◌≡◌, ℕ, List, [], ◌∷◌, ◌++◌, Vec, Global, length, map, sym, ap, ◌∙◌, arith}
use Rattle.std.specs.List.{list_all}
use Rattle.std.proofs.lemmas.List.{map_push}
use Rattle.weights.specs.Vector.{is_small}
use Rattle.cert_text.specs.Vectors.{class_points}
use Rattle.cert_text.specs.CertText.{numbers_data}
use Rattle.cert_text.proofs.Lists.{list_all_push, each_place_push}
use Rattle.cert_text.proofs.Prefixes.{list_more, list_whole}
use Rattle.cert_text.proofs.canonical_vectors.parse_class_rows.Goals as goal

abbrev items : Vec ℕ Global → List ℕ
items row = row.items

pub loop-place-preserved : goal.loop-place-preserved
loop-place-preserved c =
    let before : List (List ℕ) = map items c.loop-place.rows.items in
    let row : List ℕ = c.in_ok-row.row.items in
    let pushed : map items c.push.new.self.items ≡ before ++ row ∷ [] = rw c.in_ok-push.ensures.items (map_push items c.loop-place.rows.items c.in_ok-row.row) in
    let long : length row ≡ class_points c.args.plan.now (length before) =
    c.in_ok-row.ensures.count ∙ (c.class_points.ensures ∙ ap (class_points c.args.plan.now) (sym c.loop-place.invariant.begins.as_many)) in
    record {
      begins = rw pushed (list_more numbers_data _ _ _ _ _ _ _ c.loop-place.invariant.begins c.in_ok-element.ensures c.in_ok-row.ensures.text);
      long = rw pushed (each_place_push (λ (place : ℕ) (r : List ℕ). length r ≡ class_points c.args.plan.now place) before row c.loop-place.invariant.long long);
      small = rw pushed (list_all_push (list_all is_small) before row c.loop-place.invariant.small c.in_ok-row.ensures.small);
    }

pub returns-clause-text : goal.returns-clause-text
returns-clause-text c = list_whole numbers_data _ _ _ _ _ c.loop-place.invariant.begins c.in_ok-strip_byte.ensures

pub returns-clause-rows : goal.returns-clause-rows
returns-clause-rows c = (c.loop-place.invariant.begins.as_many ∙ (omega arith ∙ ap length c.classes-count.ensures.value), c.loop-place.invariant.long)
