-- The skeletons of objects determine how many blocks they occupy.
use Rattle.std.proofs.Common.{◌≡◌, ℕ, ◌+◌, List, [], ◌∷◌, ◌++◌, map, refl, sym, ap, ◌∙◌, sum}
use Rattle.object_table.proofs.Common.{sum_by_push, Format, ImageValue, ObjectValue, DelayObject, image_blocks, object_blocks, blocks_in, NamedObject, image_skeleton, skeleton, sum_map, KeepsBlocks, sum-map}
use Rattle.object_table.proofs.SkeletonLaws.{map-determined}

-- ---- of one object

pub blocks_of_skeleton : (object : ObjectValue) (format : Format)
    → object_blocks (skeleton object) format ≡ object_blocks object format
blocks_of_skeleton (DelayObject images) format =
    sym (sum_map (λ (image : ImageValue). image_blocks image format) image_skeleton images)
blocks_of_skeleton other format = refl

-- objects of one skeleton have as many
pub same_blocks : (one other : ObjectValue) (format : Format)
    → skeleton one ≡ skeleton other
    → object_blocks one format ≡ object_blocks other format
same_blocks one other format same =
    cc (blocks_of_skeleton one format, blocks_of_skeleton other format)

-- ---- of several

-- so have objects under names whose skeletons are the same
pub keeps_blocks : (new old : List NamedObject)
    → map (λ o. skeleton o.object) new ≡ map (λ o. skeleton o.object) old
    → KeepsBlocks old new
keeps_blocks new old same format =
    let of_named : NamedObject → ℕ = λ o. object_blocks o.object format in
    let of_object : ObjectValue → ℕ = λ object. object_blocks object format in
    sym (sum-map of_named new)
    ∙ ap sum
    (map-determined (λ (o : NamedObject). skeleton o.object) of_named of_object
    (λ o. blocks_of_skeleton o.object format) new old same)
    ∙ sum-map of_named old

-- ---- when an object is added

pub blocks-with_new : (objects : List NamedObject) (o : NamedObject) (format : Format)
    → blocks_in (objects ++ o ∷ []) format
    ≡ blocks_in objects format + object_blocks o.object format
blocks-with_new objects o format =
    sum_by_push (λ (p : NamedObject). object_blocks p.object format) objects o
