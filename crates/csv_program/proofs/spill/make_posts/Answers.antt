use Rattle.std.proofs.Common.{ℕ, ◌+◌, length, map, ap, ◌∙◌}
use Rattle.std.proofs.lemmas.List.{length_push}
use Rattle.std.proofs.lemmas.List.Elements.{All-nil, All-push}
use Rattle.task_runner.specs.Consumers.{HasConsumers}
use Rattle.csv_program.specs.QueryConsumers.{state_in}
use Rattle.csv_program.proofs.spill.make_posts.Goals as goal

pub loop-place-init : goal.loop-place-init
loop-place-init g c = record {
  count = ap length c.new-posts.ensures.items;
  consumers = rw c.new-posts.ensures.items (All-nil (λ post. HasConsumers (map state_in post.consumers.items)));
}

pub loop-place-preserved : goal.loop-place-preserved
loop-place-preserved g c = record {
  count = ap length c.in_ok-push.ensures.items ∙ length_push c.loop-place.posts.items _ ∙ ap (λ (n : ℕ). n + 1) c.loop-place.invariant.count;
  consumers =
      rw c.in_ok-push.ensures.items
      (All-push (λ post. HasConsumers (map state_in post.consumers.items)) _ _ c.loop-place.invariant.consumers c.in_ok-make_post.ensures);
}
