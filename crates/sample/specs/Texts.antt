-- The metrics text and the style sheet of each sample book.
use Rattle.std.specs.Prelude.{ℕ, List, ◌++◌, codes}

-- one face, in which each character has half an em
unfoldable pub metrics_text : List ℕ
metrics_text = codes "bookmetrics 1\nface text normal 400 16 12 4 8\n"

-- pages of 320 px by 480 px with the chapter above and the page number below, chapters on new pages, notes, and page
-- references
unfoldable pub css_text : List ℕ
css_text =
    codes "@page{size:320px 480px;margin:40px;@top-center{content:string(c)}@bottom-center{content:counter(page)}}" ++
    codes "h1{break-before:page;font-size:16px;string-set:c content()}" ++
    codes ".n{float:footnote}" ++
    codes "a::after{content:target-counter(attr(href),page)}"
