-- Posts whose disks are the same.
use Rattle.std.proofs.Common.{◌≡◌, ◌<◌, ◌∙◌, [], ℕ, List, Option, Some, None, length, map, get_or, refl, sym, ap, subst, arith}
use Rattle.std.specs.Prelude.{All, option_map, slice_get}
use Rattle.std.proofs.lemmas.List.{get_or-map, length-map}
use Rattle.std.specs.Global.{Vec}
use Rattle.std.specs.Option.{option_and_then, option_map_or}
use Rattle.std.proofs.lemmas.Option.{slice_get-map}
use Rattle.fault_count.specs.Faults.{Rose}
use Rattle.spill_disk.specs.Files.{Files}
use Rattle.spill_disk.specs.Shelves.{disk_at}
use Rattle.consumer_trait.specs.States.{State}
use Rattle.task_runner.specs.Consumers.{KeepsConsumers}
use Rattle.task_runner.specs.Pass.{states_at}
use Rattle.task_runner.specs.declared.post.Post.{Post}
use Rattle.csv_program.specs.Posts.{post_faults, post_files}
use Rattle.job_ending.specs.Statuses.{IsDiskFault}
use Rattle.job_ending.specs.declared.status.Status.{Status}
use Rattle.job_ending.specs.declared.status.Status.TheVariants as status

module _ {D C : Type 0} (before after : Vec (Post D C)) (same : map (λ post. post.disk) after.items ≡ map (λ post. post.disk) before.items) where
  disk_same : (place : ℕ) → disk_at (λ post. post.disk) after place ≡ disk_at (λ post. post.disk) before place
  disk_same place =
      sym (slice_get-map (λ (post : Post D C). post.disk) after.items place) ∙ ap (λ (disks : List D). slice_get disks place) same ∙ slice_get-map (λ (post : Post D C). post.disk) before.items place

  pub files_same : (files : D → Option Files) (place : ℕ) → post_files files after place ≡ post_files files before place
  files_same files place = ap (λ (disk : Option D). option_and_then files disk) (disk_same place)

  pub faults_same : (faults : D → ℕ) (place : ℕ) → post_faults faults after place ≡ post_faults faults before place
  faults_same faults place = ap (λ (disk : Option D). option_map_or faults disk 0) (disk_same place)

-- a fault of a disk that rose in another call's words
pub disk_fault_as : (ended : Status) (P Q : ℕ → Type 0) → ((post : ℕ) → P post → Q post) → IsDiskFault ended P → IsDiskFault ended Q
disk_fault_as (status.DiskFault post) P Q each is = each post is
disk_fault_as _ P Q each is = _

-- a rise between two counts that are the same as others
pub rose_as : (a b c d : ℕ) → a ≡ c → b ≡ d → Rose a b → Rose c d
rose_as a b c d first last rose = subst (λ (n : ℕ). Rose c n) last (subst (λ (n : ℕ). Rose n b) first rose)

states_found : {D C : Type 0} (state : C → State) (found other : Option (Post D C)) → option_map (λ post. post.consumers) found ≡ option_map (λ post. post.consumers) other
    → option_map_or (λ post. map state post.consumers.items) found [] ≡ option_map_or (λ post. map state post.consumers.items) other []
states_found state None None same = refl
states_found state None (Some post) same = cc same
states_found state (Some post) None same = cc same
states_found {D} {C} state (Some post) (Some other) same = ap (λ (consumers : Vec C). map state consumers.items) (some_same same)
  where
    some_same : {X : Type 0} {x y : X} → Some x ≡ Some y → x ≡ y
    some_same e = cc e

-- posts with the same consumers have the same states
pub states_same : {D C : Type 0} (state : C → State) (before after : List (Post D C)) → map (λ post. post.consumers) after ≡ map (λ post. post.consumers) before → (place : ℕ) → states_at state after place ≡ states_at state before place
states_same {D} {C} state before after same place =
    states_found state (slice_get after place) (slice_get before place)
    (sym (slice_get-map (λ (post : Post D C). post.consumers) after place) ∙ ap (λ (all : List (Vec C)). slice_get all place) same ∙ slice_get-map (λ (post : Post D C). post.consumers) before place)

-- what holds of consumers holds where they are the same
pub consumers_as : {D C : Type 0} (P : Vec C → Type 0) (before after : List (Post D C)) → map (λ post. post.consumers) after ≡ map (λ post. post.consumers) before
    → All (λ post. P post.consumers) before → All (λ post. P post.consumers) after
consumers_as {D} {C} P before after same all k d below =
    let count : length after ≡ length before = sym (length-map after (λ (post : Post D C). post.consumers)) ∙ ap (λ (all : List (Vec C)). length all) same ∙ length-map before (λ (post : Post D C). post.consumers) in
    let there : k < length before = omega (arith, count, below) in
    let one : (get_or after k d).consumers ≡ (get_or before k d).consumers =
    sym (get_or-map (λ (post : Post D C). post.consumers) after k d d.consumers below) ∙ ap (λ (all : List (Vec C)). get_or all k d.consumers) same ∙ get_or-map (λ (post : Post D C). post.consumers) before k d d.consumers there in
    subst P (sym one) (all k d there)

pub keeps_same : (states states' : List State) → states' ≡ states → KeepsConsumers states states'
keeps_same states states' same = subst (λ (after : List State). KeepsConsumers states after) (sym same) record { count = refl; serves = λ i. refl; least = λ i. refl }
