-- The choice from nine items, compared two at a time. The median of nine items.

-- the item chosen from three; `op` chooses one of two items, such as the smaller
abbrev pub chosen_of_three : {A : Type 0} → (A → A → A) → A → A → A → A
chosen_of_three op a b c = op (op a b) c

-- the choice from nine items: within each row, then among the rows
abbrev pub chosen_of_nine : {A : Type 0} → (A → A → A) → A → A → A → A → A → A → A → A → A → A
chosen_of_nine op a b c d e f g h i =
    chosen_of_three op (chosen_of_three op a b c) (chosen_of_three op d e f)
    (chosen_of_three op g h i)

-- the median of three items; `lo` gives the lesser and `hi` the greater of two items
abbrev pub middle_of_three : {A : Type 0} → (A → A → A) → (A → A → A) → A → A → A → A
middle_of_three lo hi a b c = hi (lo a b) (lo (hi a b) c)

-- the median of nine items, from the columns a d g, b e h and c f i. Each column has a least, a
-- middle and a greatest item. The result is the median of three items: the greatest of the least
-- items, the least of the greatest items and the middle of the middle items.
abbrev pub middle_of_nine : {A : Type 0}
    → (A → A → A)
    → (A → A → A)
    → A
    → A
    → A
    → A
    → A
    → A
    → A
    → A
    → A
    → A
middle_of_nine lo hi a b c d e f g h i =
    middle_of_three lo hi
    (chosen_of_three hi (chosen_of_three lo a d g) (chosen_of_three lo b e h)
    (chosen_of_three lo c f i))
    (chosen_of_three lo (chosen_of_three hi a d g) (chosen_of_three hi b e h)
    (chosen_of_three hi c f i))
    (middle_of_three lo hi (middle_of_three lo hi a d g) (middle_of_three lo hi b e h)
    (middle_of_three lo hi c f i))
