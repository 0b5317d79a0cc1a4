-- The HTML of a sample book: a reference to each chapter, and then the chapters.
use Rattle.std.specs.Prelude.{ℕ, List, ◌*◌, ◌-◌, ◌++◌, codes, decimal}
use Rattle.std.specs.List.{flat_map, range_with_len}
use Rattle.sample.specs.Words.{words, words_end}

-- the reference to the chapter of a number
unfoldable pub link : ℕ → List ℕ
link i = codes "<p><a href=\"#c" ++ decimal i ++ codes "\">Chapter " ++ decimal i ++ codes " </a></p>\n"

-- the heading of the chapter of a number
unfoldable pub heading : ℕ → List ℕ
heading i = codes "<h1 id=\"c" ++ decimal i ++ codes "\">Chapter " ++ decimal i ++ codes "</h1>\n"

-- a paragraph of forty words
unfoldable pub paragraph : ℕ → List ℕ
paragraph x = codes "<p>" ++ words 40 x ++ codes ".</p>\n"

-- a paragraph of forty words with a note of twelve, which stands after the twentieth
unfoldable pub note_paragraph : ℕ → List ℕ
note_paragraph x =
    codes "<p>" ++ words 20 x ++ codes "<span class=\"n\">" ++ words 12 (words_end 20 x) ++ codes "</span> " ++
    words 20 (words_end 32 x) ++ codes ".</p>\n"

-- a chapter has 212 words: five paragraphs of forty, and the note of the third
unfoldable pub chapter : ℕ → ℕ → List ℕ
chapter i x =
    heading i ++ paragraph x ++ paragraph (words_end 40 x) ++ note_paragraph (words_end 80 x)
    ++ paragraph (words_end 132 x) ++
    paragraph (words_end 172 x)

-- the chapter of a number in the book of n chapters, whose state begins as n
unfoldable pub chapter_of : ℕ → ℕ → List ℕ
chapter_of n i = chapter i (words_end (212 * (i - 1)) n)

-- the book of n chapters
unfoldable pub html_of : ℕ → List ℕ
html_of n = flat_map link (range_with_len 1 n) ++ flat_map (chapter_of n) (range_with_len 1 n)
