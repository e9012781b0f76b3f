use Rattle.admin_page.specs.Text.{sample_text}
use Rattle.admin_page.specs.Page.{bucket_sample}
use Rattle.admin_page.proofs.Texts.{counted-more}
use Rattle.admin_page.proofs.families.push_buckets.Goals as goal

pub loop-place-preserved : goal.loop-place-preserved
loop-place-preserved c = counted-more (sample_text c.args.name.now) (bucket_sample c.args.times.now.counts) c.loop-place.place _ _ _ c.loop-place.invariant c.in_ok-push_bucket.ensures
