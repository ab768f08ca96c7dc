use Rattle.std.proofs.Common.{◌≡◌, All, length, map}
use Rattle.task_runner.specs.Consumers.{HasConsumers}
use Rattle.csv_program.specs.QueryConsumers.{state_in}
use Rattle.csv_program.proofs.spill.make_posts.Given as goal

abbrev pub invariant-loop-place : goal.invariant-loop-place
invariant-loop-place g l =
    record {
      count : length l.posts.items ≡ l.place-counter;
      consumers : All (λ post. HasConsumers (map state_in post.consumers.items)) l.posts.items;
    }
