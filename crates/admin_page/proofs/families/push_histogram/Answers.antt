use Rattle.std.proofs.Common.{ℕ, List, ◌++◌, map}
use Rattle.std.specs.Prelude.{codes}
use Rattle.std.specs.List.{flat_map, range_with_len}
use Rattle.admin_page.specs.Page.{bucket_sample, sum_samples}
use Rattle.admin_page.specs.Text.{Sample, head_text, sample_text}
use Rattle.admin_page.proofs.Texts.{after, joined}
use Rattle.admin_page.proofs.families.push_histogram.Goals as goal

pub returns : goal.returns
returns c =
    let r = c.push_sums.result in
    let new = c.push_sums.new.text.items in
    let spelled : Sample → List ℕ = sample_text c.args.name.now in
    let buckets : List Sample = map (bucket_sample c.args.times.now.counts) (range_with_len 0 16) in
    let sums : List Sample = sum_samples c.args.times.now in
    let head : List ℕ = head_text c.args.name.now (codes "histogram") c.args.help.now in
    joined r spelled buckets sums c.args.text.now.items new head
    (after r c.args.text.now.items c.push_head.new.text.items new head (flat_map spelled buckets ++ flat_map spelled sums) c.in_ok-push_head.ensures
    (after r c.push_head.new.text.items c.push_buckets.new.text.items new (flat_map spelled buckets) (flat_map spelled sums) c.in_ok-push_buckets.ensures c.push_sums.ensures))
