-- The sheet that stands below those of every document (HTML, 15.3, as far as its properties are built; css-gcpm-3,
-- 2.4).
use Rattle.std.specs.Prelude.{ℕ, List, ◌++◌, codes}

-- the default sheet, which comes before all others (HTML, 15.3, in part)
unfoldable pub default_text : List ℕ
default_text =
    codes "address,article,aside,blockquote,body,caption,center,dd,details,dialog,dir,div,\n"
    ++ codes "dl,dt,fieldset,figcaption,figure,footer,form,h1,h2,h3,h4,h5,h6,header,hgroup,hr,\n"
    ++ codes "html,legend,main,menu,nav,ol,p,pre,search,section,summary,table,tbody,td,tfoot,\n"
    ++ codes "th,thead,tr,ul{display:block}\n"
    ++ codes "area,base,datalist,head,link,meta,noscript,param,script,style,template,title{display:none}\n"
    ++ codes "li{display:list-item;counter-increment:list-item}\n"
    ++ codes "ol,ul,menu{counter-reset:list-item;padding-left:40px}\n"
    ++ codes "ol{list-style-type:decimal}\n"
    ++ codes "p,dl,ol,ul,menu,pre{margin-top:1em;margin-bottom:1em}\n"
    ++ codes "blockquote,figure{margin:1em 40px}\n"
    ++ codes "dd{margin-left:40px}\n"
    ++ codes "h1{font-size:2em;margin:0.67em 0}\n"
    ++ codes "h2{font-size:1.5em;margin:0.83em 0}\n"
    ++ codes "h3{font-size:1.17em;margin:1em 0}\n"
    ++ codes "h4{margin:1.33em 0}\n"
    ++ codes "h5{font-size:0.83em;margin:1.67em 0}\n"
    ++ codes "h6{font-size:0.67em;margin:2.33em 0}\n"
    ++ codes "h1,h2,h3,h4,h5,h6{font-weight:bold;break-after:avoid}\n"
    ++ codes "b,strong,th{font-weight:bold}\n"
    ++ codes "i,em,cite,dfn,var{font-style:italic}\n"
    ++ codes "code,kbd,samp,pre,tt{font-family:monospace}\n"
    ++ codes "pre{white-space:pre}\n"
    ++ codes "hr{border-top:1px solid;margin:0.5em 0}\n"
    ++ codes "::footnote-call{content:counter(footnote)}\n"
    ++ codes "::footnote-marker{content:counter(footnote) \". \"}\n"
