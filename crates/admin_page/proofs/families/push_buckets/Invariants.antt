use Rattle.std.proofs.Common.{◌≡◌, ◌++◌, map}
use Rattle.std.specs.List.{flat_map, range_with_len}
use Rattle.admin_page.specs.Text.{sample_text}
use Rattle.admin_page.specs.Page.{bucket_sample}
use Rattle.admin_page.proofs.families.push_buckets.Given as goal

abbrev pub invariant-loop-place : goal.invariant-loop-place
invariant-loop-place l = l.text.items ≡ l.fn.text.items ++ flat_map (sample_text l.name) (map (bucket_sample l.times.counts) (range_with_len 0 l.place))
