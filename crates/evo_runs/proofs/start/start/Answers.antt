use Rattle.std.proofs.Common.{◌≡◌, ◌++◌, ◌∙◌, [], List, min, sum, map, refl, ap}
use Rattle.std.specs.Prelude.{replicate}
use Rattle.evo_code.specs.declared.layout.Layout.{Layout}
use Rattle.evo_code.specs.Layouts.{value, most_words}
use Rattle.evo_execution.specs.Words.{Word, Empty}
use Rattle.evo_runs.proofs.Starts.{start-same}
use Rattle.evo_runs.proofs.start.start.Goals as goal

pub returns : goal.returns
returns c =
    let image = c.args.image.now in
    let function = c.first-number.result.1.now in
    let words : c.fill.new.self ≡ [] ++ replicate c.room.result Empty = c.in_ok-fill.ensures ∙ ap (λ (ws : List Word). ws ++ replicate c.room.result Empty) c.new-words.ensures in
    let count = c.room.ensures ∙ ap (λ (ls : List Layout). min most_words (sum (map (value image.sizes) ls))) c.as_slice.ensures in
    record {
      number = c.first-number.result.0;
      function = function;
      named = c.first-number.ensures.number;
      found = c.first-number.ensures.function;
      same = start-same image c.first-number.result.0 function c.fill.new.self c.new.result c.new-2.result.items c.room.result words count c.new.ensures c.new-2.ensures.items
          (record { top = record { function = c.first-number.result.0; at = 0; words = c.fill.new.self; to = 0 }; below = c.new.result; objects = c.new-2.result; ticks = 0 }) refl refl refl;
    }
