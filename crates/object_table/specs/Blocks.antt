-- How many blocks of a pool the objects' images occupy: one for each image.
use Rattle.std.specs.Prelude.{ℕ, ◌≡◌, ◌≤◌, ◌+◌, List, sum_by}
use Rattle.vx_base.specs.declared.format.Format.{Format}
use Rattle.vx_base.specs.Image.{ImageValue}
use Rattle.vx_base.specs.Object.{ObjectValue, ImageObject, DelayObject}
use Rattle.pixel_pool.specs.declared.pool.Pool.{Pool}
use Rattle.pixel_pool.specs.Pool.{lent_of, one_of}
use Rattle.object_table.specs.NamedObject.{NamedObject}

-- the number of blocks of a format that an image occupies: 1 if the format is the image's, else 0
abbrev pub image_blocks : ImageValue → Format → ℕ
image_blocks image format = one_of image.format format

-- the number of blocks of a format that the images of a delay occupy
abbrev pub delay_blocks : List ImageValue → Format → ℕ
delay_blocks images format = sum_by (λ image. image_blocks image format) images

-- the number of blocks of a format that an object occupies
abbrev pub object_blocks : ObjectValue → Format → ℕ
object_blocks (ImageObject image) format = image_blocks image format
object_blocks (DelayObject images) format = delay_blocks images format
object_blocks other format = 0

-- the number of blocks of a format that a client's objects occupy
abbrev pub blocks_in : List NamedObject → Format → ℕ
blocks_in objects format = sum_by (λ o. object_blocks o.object format) objects

-- the number of lent blocks of each format is at least `blocks format`
abbrev pub LendsAtLeast : Pool → (Format → ℕ) → Type 0
LendsAtLeast pool blocks = (format : Format) → blocks format ≤ lent_of pool format

-- the number of lent blocks of each format has risen by `blocks format`
abbrev pub LendsMore : Pool → Pool → (Format → ℕ) → Type 0
LendsMore old new blocks =
    (format : Format) → lent_of new format ≡ lent_of old format + blocks format

-- the number of lent blocks of each format has fallen by `blocks format`
abbrev pub LendsLess : Pool → Pool → (Format → ℕ) → Type 0
LendsLess old new blocks =
    (format : Format) → lent_of new format + blocks format ≡ lent_of old format

-- for each format, the number of lent blocks and the number of blocks that the objects occupy have
-- changed by the same amount
abbrev pub Balances : Pool → Pool → List NamedObject → List NamedObject → Type 0
Balances pool changed before after =
    (format : Format)
    → lent_of changed format + blocks_in before format
    ≡ lent_of pool format + blocks_in after format

-- the objects occupy as many blocks of each format as before
abbrev pub KeepsBlocks : List NamedObject → List NamedObject → Type 0
KeepsBlocks before after = (format : Format) → blocks_in after format ≡ blocks_in before format
