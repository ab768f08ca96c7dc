use Rattle.std.proofs.Common.{map}
use Rattle.std.proofs.lemmas.List.Elements.{All-nil, All-push}
use Rattle.task_runner.specs.Consumers.{HasConsumers}
use Rattle.csv_program.specs.QueryConsumers.{state_in}
use Rattle.csv_program.proofs.tests.running.posts_of.Goals as goal

pub loop-place-init : goal.loop-place-init
loop-place-init c = rw c.new-posts.ensures.items (All-nil (λ post. HasConsumers (map state_in post.consumers.items)))

pub loop-place-preserved : goal.loop-place-preserved
loop-place-preserved c =
    rw c.in_ok-push.ensures.items
    (All-push (λ post. HasConsumers (map state_in post.consumers.items)) _ _ c.loop-place.invariant c.in_ok-post_of.ensures)

pub returns : goal.returns
returns c = c.loop-place.invariant
