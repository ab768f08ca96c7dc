-- What tasks leave at the posts, one call behind another.
use Rattle.std.proofs.Common.{◌≡◌, ◌∙◌, ℕ, ◌<◌, Bool, List, [], Option, get_or, length, map, refl, sym, ap, subst, arith}
use Rattle.std.specs.Prelude.{All}
use Rattle.std.specs.Global.{Vec}
use Rattle.std.specs.Option.{option_map_or}
use Rattle.std.proofs.lemmas.Option.{slice_get-get_or}
use Rattle.aggregate.specs.declared.kind.Kind.{Kind}
use Rattle.aggregate.specs.declared.kind.Kind.TheVariants.{Group, Order}
use Rattle.spill_disk.specs.Files.{Files}
use Rattle.consumer_trait.specs.States.{State}
use Rattle.task_runner.specs.Consumers.{HasConsumers, KeepsConsumers}
use Rattle.task_runner.specs.Pass.{states_at}
use Rattle.task_runner.specs.declared.post.Post.{Post}
use Rattle.csv_program.specs.Passing.{LeavesPosts}
use Rattle.csv_program.specs.Posts.{post_files}
use Rattle.csv_program.proofs.StillThere.{keeps_alike, keeps_then}

keeps_both : (a b c : List State) → KeepsConsumers a b → KeepsConsumers b c → KeepsConsumers a c
keeps_both a b c first second = record {
  count = second.count ∙ first.count;
  serves = λ i. second.serves i ∙ first.serves i;
  least = λ i. second.least i ∙ first.least i;
}

-- posts that nobody touched
pub leaves_same : {D C : Type 0} (state : C → State) (files : D → Option Files) (faults : D → ℕ) (workers : ℕ) (posts : Vec (Post D C)) → LeavesPosts state files faults workers posts posts
leaves_same state files faults workers posts = record {
  others = λ place above. refl;
  consumers = λ place. record { count = refl; serves = λ i. refl; least = λ i. refl };
  same_posts = refl;
  keeps = keeps_alike (post_files files posts) (post_files files posts) (λ place. refl);
  later = λ place. omega arith;
}

-- one call behind another
pub leaves_then : {D C : Type 0} (state : C → State) (files : D → Option Files) (faults : D → ℕ) (workers : ℕ) (a b c : Vec (Post D C)) → LeavesPosts state files faults workers a b → LeavesPosts state files faults workers b c
    → LeavesPosts state files faults workers a c
leaves_then state files faults workers a b c first second = record {
  others = λ place above. second.others place above ∙ first.others place above;
  consumers = λ place. keeps_both (states_at state a.items place) (states_at state b.items place) (states_at state c.items place) (first.consumers place) (second.consumers place);
  same_posts = second.same_posts ∙ first.same_posts;
  keeps = keeps_then (post_files files a) (post_files files b) (post_files files c) first.keeps second.keeps;
  later = λ place. let low = first.later place in let high = second.later place in omega (arith, low, high);
}

-- ---- consumers stay what they are

has_kept : (states states' : List State) → KeepsConsumers states states' → HasConsumers states → HasConsumers states'
has_kept states states' kept has = record {
  count = kept.count ∙ has.count;
  group = λ i aggs below. ap (λ (serves : Kind → Bool). serves (Group aggs)) (kept.serves i) ∙ has.group i aggs below;
  order = λ i above below. ap (λ (serves : Kind → Bool). serves Order) (kept.serves i) ∙ has.order i above below;
}

at_post : {D C : Type 0} (state : C → State) (posts : List (Post D C)) (place : ℕ) (any : Post D C) → place < length posts → states_at state posts place ≡ map state (get_or posts place any).consumers.items
at_post {D = D} {C = C} state posts place any below = ap (λ (post : Option (Post D C)). option_map_or (λ post. map state post.consumers.items) post []) (slice_get-get_or posts place any below)

-- those of all posts can still serve what they could
pub serve_still : {D C : Type 0} (state : C → State) (posts posts' : List (Post D C)) → length posts' ≡ length posts → ((place : ℕ) → KeepsConsumers (states_at state posts place) (states_at state posts' place))
    → All (λ post. HasConsumers (map state post.consumers.items)) posts → All (λ post. HasConsumers (map state post.consumers.items)) posts'
serve_still state posts posts' size kept has place any below =
    let before : place < length posts = omega (arith, size, below) in
    subst HasConsumers (at_post state posts' place any below)
    (has_kept (states_at state posts place) (states_at state posts' place) (kept place) (subst HasConsumers (sym (at_post state posts place any before)) (has place any before)))
